-- Each case of the program is that of the definition, and what a frame is read as follows from the definition.
use Rattle.std.proofs.Common.{◌≡◌, ℕ, ◌≤◌, ◌++◌, List, None, length, ap, ◌∙◌}
use Rattle.rpc_frame.specs.Frame.{First, first_frame, frame_of, max_body, whole}
use Rattle.rpc_frame.proofs.HeaderLemmas.{header_at, found_at, partial_at, too_long_at}
use Rattle.rpc_frame.proofs.ReadsBack.{reads_back}
use Rattle.rpc_frame.proofs.frames.next_frame.Goals as goal

by_law : (text : List ℕ) (first : First) → first ≡ first_frame text
    → (body rest : List ℕ) → length body ≤ max_body → text ≡ frame_of body ++ rest → first ≡ whole body rest
by_law text first e body rest small is = e ∙ ap first_frame is ∙ reads_back body rest small

pub returns-in-Some-clause-first : goal.returns-in-Some-clause-first
returns-in-Some-clause-first c =
    found_at c.args.text.now c.in-Some.header.length c.in-Some.header.end _ c.body.ensures
    ∙ header_at c.args.text.now c.min-most.result _ c.min-most.ensures c.in-Some.ensures.header

pub returns-in-Some-clause-reads_back : goal.returns-in-Some-clause-reads_back
returns-in-Some-clause-reads_back c = by_law c.args.text.now _ (returns-in-Some-clause-first c)

pub returns-in-None-clause-first : goal.returns-in-None-clause-first
returns-in-None-clause-first c =
    partial_at c.args.text.now c.if-text-lt-MAX_HEADER.true
    ∙ header_at c.args.text.now c.min-most.result None c.min-most.ensures c.in-None.ensures.header

pub returns-in-None-clause-reads_back : goal.returns-in-None-clause-reads_back
returns-in-None-clause-reads_back c = by_law c.args.text.now _ (returns-in-None-clause-first c)

pub returns-in-None-2-clause-first : goal.returns-in-None-2-clause-first
returns-in-None-2-clause-first c =
    too_long_at c.args.text.now c.if-text-lt-MAX_HEADER.false
    ∙ header_at c.args.text.now c.min-most.result None c.min-most.ensures c.in-None-2.ensures.header

pub returns-in-None-2-clause-reads_back : goal.returns-in-None-2-clause-reads_back
returns-in-None-2-clause-reads_back c = by_law c.args.text.now _ (returns-in-None-2-clause-first c)
