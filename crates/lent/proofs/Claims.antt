-- The claims of `specs/Lent.antt`: each ask is a call of the by-value reader, from the beginning of the text or from where the ask before it stopped, so the by-value reader's claims are carried over.
-- Assumes nothing.
use Prim.Native.Nat.{ℕ, zero, suc}
use mathlib.Core.Path.{◌≡◌, refl, sym, ◌∙◌, ap, subst}
use mathlib.Core.List.{List, [], ◌∷◌}
use Rattle.reader.specs.declared.State.{State}
use Rattle.reader.specs.declared.Replied.{Replied}
use Rattle.reader.specs.Text.{told_reply, new_state, default_options, Outcome, outcome, Meets}
use Rattle.reader.specs.Lines.{lines}
use Rattle.reader.specs.Row.{sayings}
use Rattle.reader.specs.Calls.{Call, Given, no_more, one_more, replies}
use Rattle.reader.proofs.Texts.{got, outcomes, says_row, rows}
use Rattle.reader.proofs.Stays.{step, next_unique}
use Rattle.writer.proofs.Unique.{create_object_file_representation_unique}
use Rattle.lent.specs.Lent.{asked, NthOf, InTurn, the_last, one_before, FirstRecordSays, NthOfSays, FirstRecordUnique, NextOfUnique, NthOfUnique, ObjectOfUnique}

pub first_record_says : FirstRecordSays
first_record_says text pool at small r pool' x =
    let s = (outcome (new_state default_options) text pool at).state in
    let c : Call = record { pool = pool; at = at } in
    (s.line, sym (rows default_options text small (c ∷ []) _ (one_more {call = c} (step r s) pool' (record { answer = x.answer; state = refl; left = x.left }) no_more)))

-- ---- asks in turn

module _ (text : List ℕ) (at : ℕ) where
  -- the calls that the asks are
  calls_of : (n : ℕ) (s : State) (pool : List ℕ) → (calls : List Call) × InTurn at n pool calls (outcomes text s calls) (got (asked n s text pool at))
  unfolding asked outcomes
  calls_of zero s pool = (record { pool = pool; at = at } ∷ [], the_last)
  calls_of (suc n) s pool =
      let o = outcome s text pool at in
      let (calls, t) = calls_of n o.state o.pool in
      (record { pool = pool; at = at } ∷ calls, one_before (got o) t)

  -- and no other calls in turn are given anything else
  given_of : (n : ℕ) (s : State) (pool : List ℕ) (calls : List Call) (givens : List Given) (last : Given) → InTurn at n pool calls givens last → givens ≡ outcomes text s calls → last ≡ got (asked n s text pool at)
  unfolding asked outcomes
  given_of zero s pool calls givens last the_last e = cc
  given_of (suc m) s pool calls givens last (one_before {calls = others} {givens = later} first t) e =
      let o = outcome s text pool at in
      let f : first ≡ got o = cc in
      let g : later ≡ outcomes text o.state others = cc in
      given_of m o.state o.pool others later last (subst (λ (p : List ℕ). InTurn at m p others later last) (ap (λ (x : Given). x.pool) f) t) g

pub nth_of_says : NthOfSays
nth_of_says options text pool at n small r pool' x last =
    let s = new_state options in
    let same : got (asked n s text pool at) ≡ record { told = told_reply r.reply; pool = pool'; line = r.state.line } = let a = x.answer in let t = x.state in let p = x.left in cc in (
      λ p. let (calls, t) = p in given_of text at n s pool calls _ last t (sym (says_row options text small calls)) ∙ same,
      λ e. let (calls, t) = calls_of text at n s pool in
          (calls, subst (λ (l : Given). InTurn at n pool calls (replies options 0 (sayings 1 (lines text)) calls) l) (same ∙ sym e) (subst (λ (gs : List Given). InTurn at n pool calls gs (got (asked n s text pool at))) (says_row options text small calls) t)),
    )

-- ---- one outcome each

pub first_record_unique : FirstRecordUnique
first_record_unique text pool at r₁ r₂ p₁ p₂ x y =
    let s = (outcome (new_state default_options) text pool at).state in
    let u = next_unique (new_state default_options) text pool at (step r₁ s) (step r₂ s) p₁ p₂
    (record { answer = x.answer; state = refl; left = x.left }) (record { answer = y.answer; state = refl; left = y.left }) in
    (ap (λ (s : Replied). s.reply) u.0, u.1)

pub next_of_unique : NextOfUnique
next_of_unique = next_unique

-- the last ask is a call of the by-value reader
last_ask : (n : ℕ) (s : State) (text pool : List ℕ) (at : ℕ) → (s' : State) × (pool' : List ℕ) × (asked n s text pool at ≡ outcome s' text pool' at)
unfolding asked
last_ask zero s text pool at = (s, pool, refl)
last_ask (suc n) s text pool at = let o = outcome s text pool at in last_ask n o.state text o.pool at

pub nth_of_unique : NthOfUnique
nth_of_unique options text pool at n r₁ r₂ p₁ p₂ x y =
    let (s, last, e) = last_ask n (new_state options) text pool at in
    next_unique s text last at r₁ r₂ p₁ p₂ (met e x) (met e y)
  where
    met : {o : Outcome} {r : Replied} {p : List ℕ} → asked n (new_state options) text pool at ≡ o → NthOf options text pool at n r p → Meets o r p
    met {r = r} {p} e x = subst (λ (o : Outcome). Meets o r p) e (record { answer = x.answer; state = x.state; left = x.left })

pub object_of_unique : ObjectOfUnique
object_of_unique = create_object_file_representation_unique
