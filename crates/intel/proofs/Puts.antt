-- What the lines of a text put, byte by byte, is what they state; and the line that ends a text is the first end record.
-- Assumes nothing.
use mathlib.Core.Path.{◌≡◌, refl, sym, ap, ◌∙◌, subst}
use mathlib.Core.Logic.{◌≢◌}
use Prim.Native.Nat.{ℕ}
use native.Mathlib.Omega.{arith}
use mathlib.Core.Bool.{Bool}
use mathlib.Core.Option.{Option, none, some}
use mathlib.Core.List.{List, [], ◌∷◌, ◌++◌}
use lib.ListN.{get_or, take}
use Rattle.digits.specs.Common.{Every}
use Rattle.record.specs.Meaning.{Meaning, data_at, end_of_file, extended_segment, start_segment, extended_linear, start_linear}
use Rattle.steps.specs.Steps.{Tally, Verdict, accepted}
use Rattle.steps.specs.Account.{AllPass}
use Rattle.steps.specs.Puts as puts
use Rattle.steps.proofs.Firsts.{AllInside}
use Rattle.steps.proofs.Puts.{Laid, laid_states, Holding, PutsAfter}
use Rattle.intel.specs.Placing.{Base, byte_address, stated_by}
use Rattle.intel.specs.Lines.{record_on, in_force, states, Passes, is_empty, goes_on, Stops, the_end, no_record, first_outside, start_differs, account}
use Rattle.intel.specs.Sums.{At, Puts, LastPut}
use Rattle.intel.proofs.OneReason.{empty_none}
use Rattle.intel.proofs.Sums.{at_only, at_there}

-- ---- what a line holds

-- by the base in force
abbrev pub held : Base → Option Meaning → Option Laid
held base none = none
held base (some (data_at offset bytes)) = some (record { at = byte_address base offset; bytes = bytes })
held base (some end_of_file) = none
held base (some (extended_segment number)) = none
held base (some (start_segment cs ip)) = none
held base (some (extended_linear number)) = none
held base (some (start_linear number)) = none

pub held_states : (ahead : List (List ℕ)) (o : Option Meaning) → states ahead o ≡ laid_states (held (in_force ahead) o)
unfolding states stated_by
held_states ahead none = refl
held_states ahead (some (data_at offset bytes)) = refl
held_states ahead (some end_of_file) = refl
held_states ahead (some (extended_segment number)) = refl
held_states ahead (some (start_segment cs ip)) = refl
held_states ahead (some (extended_linear number)) = refl
held_states ahead (some (start_linear number)) = refl

abbrev pub holding : Holding
holding =
    record {
      holds = λ ahead line. held (in_force ahead) (record_on line);
      states = λ ahead line. states ahead (record_on line);
      empty_none = λ ahead. ap (held (in_force ahead)) (empty_none [] refl);
      same = λ ahead line. held_states ahead (record_on line);
    }

-- what lines hold is what they put
module _ (ls : List (List ℕ)) (n dri a b : ℕ) where
  pub from_puts : Puts ls n dri a b → PutsAfter holding [] ls a n dri b
  from_puts p =
      record {
        laid = record { at = byte_address (in_force (take n ls)) p.drlo; bytes = p.bytes };
        there = ap (held (in_force (take n ls))) p.there;
        inside = p.inside;
        has = p.holds;
        lies = sym (at_only (take n ls) p.drlo dri a p.at);
      }

  pub to_puts : PutsAfter holding [] ls a n dri b → Puts ls n dri a b
  to_puts p = go (record_on (get_or ls n [])) refl p.there
    where
      go : (o : Option Meaning) → record_on (get_or ls n []) ≡ o → held (in_force (take n ls)) o ≡ some p.laid → Puts ls n dri a b
      go (some (data_at offset bytes)) e q =
          let same : record { at = byte_address (in_force (take n ls)) offset; bytes = bytes } ≡ p.laid = cc in
          let bs : bytes ≡ p.laid.bytes = ap (λ (x : Laid). x.bytes) same in
          let lies : byte_address (in_force (take n ls)) offset dri ≡ a = ap (λ (x : Laid). x.at dri) same ∙ p.lies in
          record { drlo = offset; bytes = bytes; there = e; inside = rw bs p.inside; holds = rw bs p.has; at = subst (At (take n ls) offset dri) lies (at_there (take n ls) offset dri) }
      go none e q = let z : ◌≡◌ {A = ℕ} 0 1 = cc in absurd (omega arith)
      go (some end_of_file) e q = let z : ◌≡◌ {A = ℕ} 0 1 = cc in absurd (omega arith)
      go (some (extended_segment x)) e q = let z : ◌≡◌ {A = ℕ} 0 1 = cc in absurd (omega arith)
      go (some (start_segment cs ip)) e q = let z : ◌≡◌ {A = ℕ} 0 1 = cc in absurd (omega arith)
      go (some (extended_linear x)) e q = let z : ◌≡◌ {A = ℕ} 0 1 = cc in absurd (omega arith)
      go (some (start_linear x)) e q = let z : ◌≡◌ {A = ℕ} 0 1 = cc in absurd (omega arith)

-- the bytes of a line that passes lie inside
pub lie : (inside : ℕ → Bool) (ahead : List (List ℕ)) (l : List ℕ) → Passes inside ahead l → AllInside inside (laid_states (held (in_force ahead) (record_on l)))
lie inside ahead l (is_empty e) = rw (empty_none l e) tt
lie inside ahead l (goes_on m ne e d i g) = rw (← held_states ahead (record_on l), e) i

-- what lines put at an address, in Intel's names
module _ (ls : List (List ℕ)) (a : ℕ) where
  abbrev pub PutThere : (n dri b : ℕ) → Type 0
  PutThere n dri b = Puts ls n dri a b

  -- a place of a line has one byte
  pub one_byte : (n dri b b' : ℕ) → PutThere n dri b → PutThere n dri b' → b ≡ b'
  one_byte n dri b b' p q =
      let same : some (data_at p.drlo p.bytes) ≡ some (data_at q.drlo q.bytes) = sym p.there ∙ q.there in
      let bytes : p.bytes ≡ q.bytes = cc in
      sym p.holds ∙ ap (λ (bs : List ℕ). get_or bs dri 0) bytes ∙ q.holds

  pub as_last : {b : ℕ} → puts.LastPut PutThere b → LastPut ls a b
  as_last x = record { line = x.line; dri = x.i; puts = x.puts; none_later = x.none_later }

  pub of_last : {b : ℕ} → LastPut ls a b → puts.LastPut PutThere b
  of_last x = record { line = x.line; i = x.dri; puts = x.puts; none_later = x.none_later }

-- ---- the end

-- each line that passes is no end record
pub none_ends : (inside : ℕ → Bool) (ahead ls : List (List ℕ)) → AllPass (account inside) ahead ls → Every (λ (line : List ℕ). record_on line ≢ some end_of_file) ls
none_ends inside ahead [] p = tt
none_ends inside ahead (l ∷ ls) (p, ps) = (go p, none_ends inside (ahead ++ (l ∷ [])) ls ps)
  where
    go : Passes inside ahead l → record_on l ≢ some end_of_file
    go (is_empty e) q = let x = empty_none l e in let z : ◌≡◌ {A = ℕ} 0 1 = cc in omega arith
    go (goes_on m ne e d i g) q = d cc

-- and one that accepts is
pub end_stops : (inside : ℕ → Bool) (ahead : List (List ℕ)) (l : List ℕ) (n : ℕ) (v : Verdict) (k : Tally) → Stops inside ahead l n v → v ≡ accepted k → record_on l ≡ some end_of_file
end_stops inside ahead l n v k (the_end tally e c) q = e
end_stops inside ahead l n v k (no_record r b e) q = cc
end_stops inside ahead l n v k (first_outside before after p e i o) q = cc
end_stops inside ahead l n v k (start_differs s first e a d) q = cc
