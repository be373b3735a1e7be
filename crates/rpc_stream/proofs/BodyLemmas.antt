-- What a body asks for.
use Rattle.std.proofs.Common.{◌≡◌, ℕ, Bool, true, false, cond, Option, None, Some, Ok, Err, List, [], ◌∷◌, refl, sym, ap, subst, ◌∙◌}
use Rattle.std.specs.Prelude.{is_some, IsUtf8}
use Rattle.std.specs.Str.{is_utf8}
use Rattle.std.proofs.lemmas.Str.{IsUtf8-from_is_utf8, is_utf8-from_IsUtf8}
use Rattle.serde_json.specs.Data.{Data}
use Rattle.serde_json.specs.Read.{read}
use Rattle.serde_json.specs.View.{view}
use Rattle.mix_refused.specs.declared.refused.Refused.TheVariants as refused
use Rattle.rpc_frame.specs.Frame.{First, whole, without_length, partial, too_long, first_frame}
use Rattle.rpc_message.specs.declared.request.MessageFault.{MessageFault}
use Rattle.rpc_message.specs.declared.request.MessageFault.TheVariants.{NotJson, NotRequest}
use Rattle.rpc_message.specs.declared.request.Request.{Request}
use Rattle.rpc_message.specs.Members.{request_seq}
use Rattle.rpc_message.specs.Reads.{ReadsAs, Says}
use Rattle.rpc_stream.specs.Asked.{Body, IsRequest, frame_in, asked_by, frame_with, message_in}
use Rattle.rpc_stream.specs.Heard.{BeginsWith, Hears, HearsBodies}
use Rattle.rpc_stream.specs.Prelude.{Takes, Turn}

says : (body : List ℕ) (message : Data) → Says body message → message_in body ≡ Some message
says body message is = rw (is_utf8-from_IsUtf8 body is.0) is.1

-- what is read as a request is the request that the body is
body-request : (body : List ℕ) (request : Request) → Says body (view request.message) × (request_seq (view request.message) ≡ Some request.seq)
    → (message : Data) × IsRequest request message × (Ok message ≡ frame_in body)
body-request body request is =
    let message = view request.message in
    let there : frame_with (Some message) ≡ Ok message = ap (λ (s : Option ℕ). cond (is_some s) (Ok message) (Err (Some NotRequest))) is.1 in
    (message, (refl, is.1), sym (ap frame_with (says body message is.0) ∙ there))

-- it is served
pub answers : {S : Type 0} (serves : S × ℕ → Request → List Data → Turn → S × ℕ → Type 0) (body : List ℕ) (request : Request) (s t : S × ℕ)
    (told : List Data) (next : Turn) → Says body (view request.message) × (request_seq (view request.message) ≡ Some request.seq)
    → serves s request told next t → Takes serves s (frame_in body) told next t
answers serves body request s t told next read is =
    let there = body-request body request read in
    subst (λ f. Takes serves s f told next t) there.2 (request, there.1, is)

not-json : (body : List ℕ) (b : Bool) → is_utf8 body ≡ b → (IsUtf8 body → read body ≡ None) → cond b (read body) None ≡ None
not-json body true is none = none (IsUtf8-from_is_utf8 body is)
not-json body false is none = refl

pub body-fault : (body : List ℕ) (fault : MessageFault) → ReadsAs body (Err (refused.Fault fault)) → Err (Some fault) ≡ frame_in body
body-fault body NotJson is = sym (ap frame_with (not-json body (is_utf8 body) refl is))
body-fault body NotRequest is =
    let there : frame_with (Some is.0) ≡ Err (Some NotRequest) = ap (λ (s : Option ℕ). cond (is_some s) (Ok is.0) (Err (Some NotRequest))) is.2 in
    sym (ap frame_with (says body is.0 is.1) ∙ there)

pub ruleset bodies = (answers, body-fault)

-- ---- a frame that is heard by its body

begins : (first : First) (body : Body) (left : List ℕ) → BeginsWith (λ b. b) first body left → BeginsWith asked_by first (asked_by body) left
begins (whole text rest) body left is = (ap asked_by is.0, is.1)
begins (without_length rest) body left is = (ap asked_by is.0, is.1)
begins partial body left is = absurd is
begins too_long body left is = absurd is

pub hears-frame : (body : Body) (old new : Option (List ℕ)) → HearsBodies old (body ∷ []) new → Hears old (asked_by body ∷ []) new
hears-frame body None new is = tt
hears-frame body (Some text) None is = absurd is
hears-frame body (Some text) (Some left) is = (is.0, begins (first_frame text) body is.0 is.1, is.2)
