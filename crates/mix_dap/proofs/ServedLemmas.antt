-- How a launch is answered.
use Rattle.std.proofs.Common.{◌≡◌, ℕ, List, [], refl, ap, ◌∙◌, Result, Ok, Err}
use Rattle.rpc_message.specs.declared.outbox.Outbox.{Outbox}
use Rattle.rpc_message.specs.declared.request.Request.{Request}
use Rattle.rpc_message.specs.Message.{waits}
use Rattle.mix_dap.specs.Prelude.{LaunchTells, AskedShows, Known, Texts}
use Rattle.mix_dap.specs.Dialogue.{Opens}
use Rattle.mix_dap.specs.declared.waiting.Asked.TheVariants as asked
use Rattle.mix_dap.specs.Before.{IsLaunch, ShowsBefore, answer_before, events_before, later_before}
use Rattle.mix_dap.specs.Texts.{AreTexts}
use Rattle.dap_asked.specs.declared.fault.Fault.{Fault}
use Rattle.dap_asked.specs.declared.kind.Kind.{Kind}
use Rattle.dap_asked.specs.declared.kind.Kind.TheVariants as kind

-- ---- a launch that was left waits for its answer, and nothing else does

-- its texts are those that it asks for, and nothing is told
kind-launch : (k : Kind) (knows : List ℕ → Known) (texts : Texts) (r : Request) (a b : Outbox)
    → ShowsBefore knows (answer_before k) (events_before k) (later_before k) (asked.Launch texts) r a b
    → (k ≡ kind.Launch) × AreTexts knows r texts × (b ≡ a)
kind-launch kind.Initialize knows texts r a b is = absurd (let e = is.0 in cc)
kind-launch kind.Terminate knows texts r a b is = absurd (let e = is.0 in cc)
kind-launch kind.Disconnect knows texts r a b is = absurd (let e = is.0 in cc)
kind-launch kind.Launch knows texts r a b is = (refl, is.0, is.1)
kind-launch (kind.Look look) knows texts r a b is = absurd (let e = is.0 in cc)
kind-launch (kind.Given given) knows texts r a b is = absurd (let e = is.0 in cc)
kind-launch (kind.Points target) knows texts r a b is = absurd (let e = is.0 in cc)
kind-launch kind.Pause knows texts r a b is = absurd (let e = is.0 in cc)
kind-launch kind.Restart knows texts r a b is = absurd (let e = is.0 in cc)
kind-launch kind.Cancel knows texts r a b is = absurd (let e = is.0 in cc)
kind-launch kind.Write knows texts r a b is = absurd (let e = is.0 in cc)
kind-launch kind.StepOver knows texts r a b is = absurd (let e = is.0 in cc)
kind-launch (kind.Act act) knows texts r a b is = absurd (let e = is.0 in cc)

pub launch-waits : (asks : Result Kind Fault) (knows : List ℕ → Known) (texts : Texts) (r : Request) (a b : Outbox)
    → AskedShows knows asks (asked.Launch texts) r a b → IsLaunch asks × AreTexts knows r texts × (b ≡ a)
launch-waits (Err why) knows texts r a b is = absurd (let e = is.0 in cc)
launch-waits (Ok k) knows texts r a b is = kind-launch k knows texts r a b is

-- nothing waits before it, nor while its texts are read
pub opens-as : (kind : Result Kind Fault) (knows : List ℕ → Known) (request : Request) (texts : Texts) (a b c : Outbox) → waits a ≡ []
    → AskedShows knows kind (asked.Launch texts) request a b
    → LaunchTells request texts b c → Opens kind request texts (waits c) a.seq c.seq
opens-as kind knows request texts a b c none shows prints =
    let launch = launch-waits kind knows texts request a b shows in
    ((launch.0, knows, launch.1), record { old = b; new = c; none = ap waits launch.2 ∙ none; all = refl; follow = ap (λ (o : Outbox). o.seq) launch.2; lead = refl; added = prints })
