-- What one ask of a reader does to the asks that are left, in the terms of `asked`: the laws of a turn of `nth_of`.
-- Assumes nothing.
use Prim.Native.Nat.{ℕ, suc, ◌+◌, ◌-◌, ◌≤◌, ◌<◌}
use mathlib.Core.Path.{◌≡◌, refl, sym, ◌∙◌, ap}
use mathlib.Core.List.{List}
use native.Mathlib.Omega.{arith}
use Rattle.reader.specs.declared.Reader.{Reader}
use Rattle.reader.specs.Aliases.{Reply}
use Rattle.reader.specs.Text.{Outcome, Meets}
use Rattle.reader.specs.Held.{held, Asked}
use Rattle.reader.proofs.Stays.{step}
use Rattle.lent.specs.Lent.{asked}

-- what n more asks and one come to, of a reader with the text that it holds
abbrev pub after : (n : ℕ) → Reader → (pool : List ℕ) (at : ℕ) → Outcome
after n h pool at = asked n h.state h.text.now pool at

after_0 : (h : Reader) (pool : List ℕ) (at : ℕ) → after 0 h pool at ≡ held h pool at
unfolding asked
after_0 h pool at = refl

module _ {h h' : Reader} {pool pool' : List ℕ} {at : ℕ} {r : Reply} (a : Asked h pool at r h' pool') where
  after_suc : (n : ℕ) → after (suc n) h pool at ≡ after n h' pool' at
  unfolding asked
  after_suc n = rw (a.stands, a.holds, a.left) refl

  -- i of n asks have been made before this one: it is not the last, and the rest goes on from where it stopped
  pub goes_on : (n i : ℕ) → i < n → after (n - (i + 1)) h' pool' at ≡ after (n - i) h pool at
  goes_on n i less = sym (ap (λ (m : ℕ). after m h pool at) (omega (arith, less)) ∙ after_suc (n - (i + 1)))

  -- or it is the last
  pub the_last : (n i : ℕ) → n ≤ i → Meets (after (n - i) h pool at) (step r h'.state) pool'
  the_last n i stop =
      let e : after (n - i) h pool at ≡ held h pool at = ap (λ (m : ℕ). after m h pool at) (omega (arith, stop)) ∙ after_0 h pool at in
      rw e (record { answer = a.answer; state = a.stands; left = a.left })
