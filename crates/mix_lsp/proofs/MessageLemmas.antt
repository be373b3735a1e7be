-- The message that a body is.
use Rattle.std.proofs.Common.{◌≡◌, ℕ, Bool, true, false, cond, None, Some, List, refl, sym, IsUtf8}
use Rattle.std.specs.Str.{is_utf8}
use Rattle.std.proofs.lemmas.Str.{IsUtf8-from_is_utf8, is_utf8-from_IsUtf8}
use Rattle.serde_json.specs.Data.{Data}
use Rattle.serde_json.specs.Read.{read}
use Rattle.rpc_stream.specs.Asked.{message_in}

pub says : (body : List ℕ) (message : Data) → IsUtf8 body × (read body ≡ Some message) → Some message ≡ message_in body
says body message is = rw (is_utf8-from_IsUtf8 body is.0) (sym is.1)

not-json : (body : List ℕ) (b : Bool) → is_utf8 body ≡ b → (IsUtf8 body → read body ≡ None) → None ≡ cond b (read body) None
not-json body true is none = sym (none (IsUtf8-from_is_utf8 body is))
not-json body false is none = refl

pub says-none : (body : List ℕ) → (IsUtf8 body → read body ≡ None) → None ≡ message_in body
says-none body none = not-json body (is_utf8 body) refl none

pub ruleset bodies = (says, says-none)
