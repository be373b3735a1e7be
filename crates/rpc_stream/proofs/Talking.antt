-- Parts of a talk, one after the other.
use Rattle.std.proofs.Common.{◌≡◌, ℕ, ◌+◌, Option, None, Some, List, [], ◌∷◌, ◌++◌, length, refl, sym, ap, subst, ◌∙◌, append_assoc, append-nil}
use Rattle.std.proofs.lemmas.List.{length-append}
use Rattle.serde_json.specs.Data.{Data}
use Rattle.rpc_stream.specs.Prelude.{Body, Frame, asked_by, SendsAll}
use Rattle.rpc_stream.specs.Heard.{Hears, HearsOf, Holds}
use Rattle.rpc_stream.specs.Talk.{Exchange, Leads, Talks, Trades, frames, messages}
use Rattle.rpc_stream.proofs.SendLemmas.{sends-none, sends-then}

-- ---- what was heard

module _ {F : Type 0} (of : Body → F) where
  holds-then : (text mid left : List ℕ) (xs ys : List F) → Holds of text xs mid → Holds of mid ys left → Holds of text (xs ++ ys) left
  holds-then text mid left [] ys p q = subst (λ t. Holds of t ys left) p q
  holds-then text mid left (x ∷ xs) ys p q = (p.0, p.1, holds-then p.0 mid left xs ys p.2 q)

  pub hears-then : (a b c : Option (List ℕ)) (xs ys : List F) → HearsOf of a xs b → HearsOf of b ys c → HearsOf of a (xs ++ ys) c
  hears-then None b c xs ys p q = tt
  hears-then (Some text) None c xs ys p q = absurd p
  hears-then (Some text) (Some mid) None xs ys p q = absurd q
  hears-then (Some text) (Some mid) (Some left) xs ys p q = holds-then text mid left xs ys p q

  pub hears-none : (a : Option (List ℕ)) → HearsOf of a [] a
  hears-none None = tt
  hears-none (Some text) = refl

-- ---- parts of a talk

frames-append : (xs ys : List Exchange) → frames (xs ++ ys) ≡ frames xs ++ frames ys
frames-append [] ys = refl
frames-append (x ∷ xs) ys = ap (λ l. x.frame ∷ l) (frames-append xs ys)

messages-append : (xs ys : List Exchange) → messages (xs ++ ys) ≡ messages xs ++ messages ys
messages-append [] ys = refl
messages-append (x ∷ xs) ys = ap (λ l. x.told ++ l) (messages-append xs ys) ∙ sym (append_assoc x.told (messages xs) (messages ys))

leads-then : {S : Type 0} (step : S → Frame → List Data → S → Type 0) (s m t : S) (xs ys : List Exchange) → Leads step s xs m → Leads step m ys t
    → Leads step s (xs ++ ys) t
leads-then step s m t [] ys p q = subst (λ v. Leads step v ys t) p q
leads-then step s m t (x ∷ xs) ys p q = (p.0, p.1, leads-then step p.0 m t xs ys p.2 q)

-- nothing is heard and nothing is sent
pub talks-none : {S : Type 0} (step : S → Frame → List Data → S → Type 0) (s : S) (old told : Option (List ℕ)) → Talks step s s 0 old old told told
talks-none step s old told = record {
  exchanges = [];
  counts = refl;
  hears = hears-none asked_by old;
  sends = sends-none told;
  leads = refl;
}

-- one exchange
pub talks-one : {S : Type 0} (step : S → Frame → List Data → S → Type 0) (s t : S) (frame : Frame) (old new told now : Option (List ℕ))
    → Hears old (frame ∷ []) new → Trades step s frame t told now → Talks step s t 1 old new told now
talks-one step s t frame old new told now hears trades = record {
  exchanges = record { frame = frame; told = trades.0 } ∷ [];
  counts = refl;
  hears = hears;
  sends = subst (λ ms. SendsAll ms told now) (sym (append-nil trades.0)) trades.2;
  leads = (t, trades.1, refl);
}

-- a part, and then another
pub talks-then : {S : Type 0} (step : S → Frame → List Data → S → Type 0) (s m t : S) (first then : ℕ) (a b c told mid now : Option (List ℕ))
    → Talks step s m first a b told mid → Talks step m t then b c mid now → Talks step s t (first + then) a c told now
talks-then step s m t first then a b c told mid now p q = record {
  exchanges = p.exchanges ++ q.exchanges;
  counts = length-append p.exchanges q.exchanges ∙ ap (λ n. n + length q.exchanges) p.counts ∙ ap (λ n. first + n) q.counts;
  hears = subst (λ fs. Hears a fs c) (sym (frames-append p.exchanges q.exchanges)) (hears-then asked_by a b c (frames p.exchanges) (frames q.exchanges) p.hears q.hears);
  sends = subst (λ ms. SendsAll ms told now) (sym (messages-append p.exchanges q.exchanges))
      (sends-then (messages p.exchanges) (messages q.exchanges) told mid now p.sends q.sends);
  leads = leads-then step s m t p.exchanges q.exchanges p.leads q.leads;
}
