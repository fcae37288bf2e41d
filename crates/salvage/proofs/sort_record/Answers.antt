-- Record by record.
use Rattle.std.proofs.Common.{◌≡◌, ℕ, Bool, List, ◌⊎◌, inl, inr, refl, true}
use Rattle.record.specs.declared.Record.{Record}
use Rattle.record.specs.declared.Record.TheVariants.{ExtendedSegmentAddress, StartSegmentAddress, ExtendedLinearAddress, StartLinearAddress}
use Rattle.record.specs.Record.{meant}
use Rattle.reader.specs.declared.State.{State}
use Rattle.reader.specs.Row.{is_end}
use Rattle.salvage.specs.declared.Turn.TheVariants.{Keeps}
use Rattle.salvage.specs.Salvage.{fate_of, still_known}
use Rattle.salvage.specs.Helpers.{Sorts}
use Rattle.salvage.proofs.sort_record.Goals as goal

sets_base : (state : State) (known : Bool) (x : Record) (pool : List ℕ) → ((n : ℕ) × (x ≡ ExtendedSegmentAddress n)) ⊎ ((n : ℕ) × (x ≡ ExtendedLinearAddress n))
    → Sorts state known x (meant x pool) (Keeps x (record { state = state; known = true }))
unfolding fate_of still_known is_end
sets_base state known x pool (inl (n, e)) = rw e (refl, refl, refl, refl)
sets_base state known x pool (inr (n, e)) = rw e (refl, refl, refl, refl)

states_start : (state : State) (known : Bool) (x : Record) (pool : List ℕ) → ((cs : ℕ) × (ip : ℕ) × (x ≡ StartSegmentAddress cs ip)) ⊎ ((n : ℕ) × (x ≡ StartLinearAddress n))
    → Sorts state known x (meant x pool) (Keeps x (record { state = state; known = known }))
unfolding fate_of still_known is_end
states_start state known x pool (inl (cs, ip, e)) = rw e (refl, refl, refl, refl)
states_start state known x pool (inr (n, e)) = rw e (refl, refl, refl, refl)

pub returns-then-known : goal.returns-then-known
unfolding fate_of still_known is_end
returns-then-known c = λ pool. rw (c.in-Data.is, c.if-known.true) (refl, refl, refl, refl)

pub returns-else-known : goal.returns-else-known
unfolding fate_of still_known is_end
returns-else-known c =
    λ pool. rw (c.in-Data.is, c.if-known.false) (record { line_is = refl; why_is = refl; a_is = refl; b_is = refl }, refl, refl, refl)

pub returns-in-ExtendedSegmentAddress : goal.returns-in-ExtendedSegmentAddress
returns-in-ExtendedSegmentAddress c = λ pool. sets_base c.args.state c.args.known c.args.given pool c.in-ExtendedSegmentAddress.is

pub returns-in-StartSegmentAddress : goal.returns-in-StartSegmentAddress
returns-in-StartSegmentAddress c = λ pool. states_start c.args.state c.args.known c.args.given pool c.in-StartSegmentAddress.is
