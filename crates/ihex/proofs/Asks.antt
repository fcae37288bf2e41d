-- The claims of `specs/Asks.antt`: what `query`, `window` and `table` prove, in numbers.
-- Assumes nothing.
use Prim.Native.Nat.{ℕ, ◌%◌}
use mathlib.Core.Path.{◌≡◌, refl, sym, ap, ◌∙◌}
use mathlib.Core.Logic.{◌≢◌, ◌⊎◌, inl, inr}
use mathlib.Core.Bool.{Bool, true, false}
use mathlib.Core.List.{[], ◌∷◌}
use native.Mathlib.Omega.{arith}
use lib.Dec.{eqb}
use lib.ListN.{length}
use borrow.Author.Tests.{eqb-true, eqb-false}
use Rattle.record.specs.Refusals.{refusal}
use Rattle.steps.specs.Steps.{Verdict, accepted, refused}
use Rattle.steps.specs.Sites.{Loaded}
use Rattle.steps.specs.Ask.{Asked, states, not_stated, refuses, Shows, Like, Outside}
use Rattle.window.specs.Load.{load_window}
use Rattle.window.specs.Tables.{load_table}
use Rattle.window.proofs.Asks.{asked_in_window, asked_by_table, like_in_window, like_by_table}
use Rattle.intel.specs.Placing.{intel}
use Rattle.query.specs.Ask.{ask}
use Rattle.query.specs.Claims.{Among}
use Rattle.query.proofs.Claims.{reasons, one_reason, total, nothing_after}
use Rattle.entries.specs.Entry.{rows_of}
use Rattle.codes.specs.Codes.{load_numbers, ask_numbers}
use Rattle.ihex.specs.Asks.{Returned, a_byte, no_byte, a_refusal, IhexAskReturns, IhexAskReasons, IhexAskNothingAfter, IhexAskUnique, Agrees, both_state, none_states, IhexAskAgrees, IhexAskAgreesByTable, Alike, both_accept, both_refuse, outside_only, IhexAskAsLoad, IhexAskAsLoadTable}
use Rattle.ihex.proofs.Loads.{accepts}
use Rattle.ihex.proofs.Tables.{accepts as table-accepts, as_windows, whole}

-- ---- what is returned

returned : (x : Asked) → Among (1 ∷ 2 ∷ 3 ∷ 4 ∷ 5 ∷ 6 ∷ 7 ∷ 8 ∷ 9 ∷ 13 ∷ 21 ∷ []) x → Returned (ask_numbers x)
returned (states b) h = a_byte b refl
returned not_stated h = no_byte refl
returned (refuses (refusal n values) line) h = a_refusal n h refl

pub ihex_ask_returns : IhexAskReturns
ihex_ask_returns text address r x = rw x.numbers (returned (ask text address) (total text address))

pub ihex_ask_reasons : IhexAskReasons
ihex_ask_reasons text address r x =
    record {
      answer = ask text address;
      why = reasons text address;
      told = x.numbers;
      only = λ a w. one_reason text address a (ask text address) w (reasons text address);
    }

pub ihex_ask_nothing_after : IhexAskNothingAfter
ihex_ask_nothing_after text₁ text₂ line v e head h₁ h₂ address r₁ r₂ x y = x.numbers ∙ ap ask_numbers (nothing_after text₁ text₂ line v e head h₁ h₂ address) ∙ sym y.numbers

pub ihex_ask_unique : IhexAskUnique
ihex_ask_unique text address r r' x y = x.numbers ∙ sym y.numbers

-- ---- beside a load

agrees : (x : Asked) (old m b : ℕ) → Shows x old m b → Agrees (ask_numbers x) old m b
agrees (states c) old m b (e, q) = both_state e (rw q)
agrees not_stated old m b (e, q) = none_states e q refl
agrees (refuses r line) old m b h = absurd h

pub ihex_ask_agrees : IhexAskAgrees
ihex_ask_agrees text first page marks l p m x ok i h r y =
    let (t, k) = accepts intel text first page marks l p m x ok in
    rw (y.numbers, x.page_is, x.marks_is) (agrees (ask text _) _ _ _ (asked_in_window _ intel text first page marks t k i h))

pub ihex_ask_agrees_by_table : IhexAskAgreesByTable
ihex_ask_agrees_by_table text owner table pool marks l p m x ok i address h shows r y =
    let (t, k) = table-accepts intel text owner table pool marks l p m x ok in
    let a = as_windows intel text owner table pool marks l p m x (whole intel text owner table pool marks l p m x t k) in
    rw (y.numbers, x.pool_is, x.marks_is, a)
    (agrees (ask text address) _ _ _ (asked_by_table _ intel owner (rows_of table) text pool marks t (ap (λ (z : Loaded). z.answer) (sym a) ∙ k) i address h shows))

-- a number that is not other than 0 is 0
not_other : (n : ℕ) → ¬ (n ≢ 0) → n ≡ 0
not_other n h = go (eqb n 0) refl
  where
    go : (b : Bool) → eqb n 0 ≡ b → n ≡ 0
    go true q = eqb-true n 0 q
    go false q = absurd (h (eqb-false n 0 q))

like : (v : Verdict) (x : Asked) → Like v x ⊎ Outside v → Alike (load_numbers v) (ask_numbers x)
like (accepted t) (states b) (inl h) = both_accept refl (inl refl)
like (accepted t) not_stated (inl h) = both_accept refl (inr refl)
like (accepted t) (refuses r line) (inl h) = absurd h
like (refused (refusal n values) line) x (inl h) = both_refuse (λ e. omega arith) (rw h)
like v x (inr (address, line, e)) = rw e (outside_only refl)

pub ihex_ask_as_load : IhexAskAsLoad
ihex_ask_as_load text first page marks l p m w x address r y =
    rw (x.numbers, y.numbers) (like (load_window intel text first page marks).answer (ask text address) (like_in_window _ intel text first page marks address w))

pub ihex_ask_as_load_table : IhexAskAsLoadTable
ihex_ask_as_load_table text owner table pool marks l p m good x address r y =
    let a = as_windows intel text owner table pool marks l p m x (not_other (length table % 24) (λ n. good (inl n))) in
    rw (x.numbers, y.numbers, a)
    (like (load_table intel owner (rows_of table) text pool marks).answer (ask text address) (like_by_table _ intel owner (rows_of table) text pool marks address (λ bad. good (inr bad))))
