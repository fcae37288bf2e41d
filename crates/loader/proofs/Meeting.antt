-- What a record comes to, and the base after it. Once its type is known its action computes, and a data record goes by the part of the pool that
-- holds its bytes.
-- Assumes nothing.
use Rattle.std.proofs.Common.{◌≡◌, ℕ, suc, ◌+◌, ◌-◌, ◌≤◌, Bool, true, false, List, [], ◌∷◌, take, drop, sym, refl, ap, add-one, arith, length-drop, length-take-le}
use mathlib.Core.Option.{Option, none, some, map}
use Rattle.std.specs.Prelude.{if◌then◌else◌}
use Rattle.record.specs.Refusals.{start_conflict}
use Rattle.record.specs.Meaning.{Meaning, data_at, end_of_file, extended_segment, start_segment, extended_linear, start_linear}
use Rattle.record.specs.Record.{meant}
use Rattle.record.specs.declared.Record.{Record}
use Rattle.record.specs.declared.Record.TheVariants.{Data, EndOfFile, ExtendedSegmentAddress, StartSegmentAddress, ExtendedLinearAddress, StartLinearAddress}
use Rattle.digits.proofs.Parts.{part_is}
use Rattle.reader.specs.Row.{is_end}
use Rattle.steps.specs.Steps.{Placement, Start, cs_with_ip, linear_address, starts, Tally, one_more, started, refused, outside, differ, at_data, turn}
use Rattle.steps.specs.Steps as steps
use Rattle.steps.specs.Taken.{Standing, on, onward, acted}
use Rattle.steps.proofs.Starts.{kept_so}
use Rattle.window.specs.Aliases.{Reach}
use Rattle.window.specs.Promises.{first_byte, Surveyed, Painted}
use Rattle.window.proofs.Loads.{painted_nothing}
use Rattle.loader.specs.declared.Base.{Base as CodeBase}
use Rattle.loader.specs.declared.Base.TheVariants.{Segment, Linear}
use Rattle.steps.specs.declared.LoaderError.TheVariants.{OutsideWindow, StartConflict}
use Rattle.steps.specs.Aliases.{Stated as CodeStart}
use Rattle.steps.specs.declared.Tally.{Tally as CodeTally}
use Rattle.loader.specs.declared.Taken.{Taken}
use Rattle.loader.specs.declared.Taken.TheVariants.{On, Stop}
use Rattle.intel.specs.Placing.{Base, base_behind, byte_address, placed, does}
use Rattle.steps.specs.Told.{told_start}
use Rattle.loader.specs.Helpers.{based, stated_by, Behind, Met, MeetsStart}
use Rattle.intel.specs.Records.{LiesIn}
use Rattle.std.specs.Prelude.{None, Ok, Some}
use Rattle.steps.specs.Aliases.{refuse}

-- ---- the base behind a record

module _ (base : CodeBase) (x : Record) where
  pub behind_segment : (n : ℕ) → x ≡ ExtendedSegmentAddress n → Behind base x (Segment n)
  unfolding base_behind
  behind_segment n e = record { base_is = λ pool. rw e }

  pub behind_linear : (n : ℕ) → x ≡ ExtendedLinearAddress n → Behind base x (Linear n)
  unfolding base_behind
  behind_linear n e = record { base_is = λ pool. rw e }

-- any other record leaves it
pub behind_other : (base : CodeBase) (x : Record) → ((n : ℕ) → x ≡ ExtendedSegmentAddress n → ⊥) → ((n : ℕ) → x ≡ ExtendedLinearAddress n → ⊥) → Behind base x base
unfolding base_behind
behind_other base (Data offset at len) s l = record { base_is = λ pool. refl }
behind_other base EndOfFile s l = record { base_is = λ pool. refl }
behind_other base (ExtendedSegmentAddress n) s l = absurd (s n refl)
behind_other base (StartSegmentAddress cs ip) s l = record { base_is = λ pool. refl }
behind_other base (ExtendedLinearAddress n) s l = absurd (l n refl)
behind_other base (StartLinearAddress n) s l = record { base_is = λ pool. refl }

module _ (base : CodeBase) (x : Record) where
  pub behind_data : (offset at len : ℕ) → x ≡ Data offset at len → Behind base x base
  unfolding base_behind
  behind_data offset at len e = record { base_is = λ pool. rw e }

  pub behind_cs_ip : (cs ip : ℕ) → x ≡ StartSegmentAddress cs ip → Behind base x base
  unfolding base_behind
  behind_cs_ip cs ip e = record { base_is = λ pool. rw e }

  pub behind_eip : (n : ℕ) → x ≡ StartLinearAddress n → Behind base x base
  unfolding base_behind
  behind_eip n e = record { base_is = λ pool. rw e }

-- ---- what it comes to

module _ (inside : ℕ → Bool) (n : ℕ) (base : CodeBase) (tally : CodeTally) (x : Record) (pool : List ℕ) (lies : LiesIn x pool) where
  -- where the payload of a data record lies, as it was surveyed
  surveyed : (offset at len : ℕ) → x ≡ Data offset at len → (r : Reach) → Surveyed (byte_address (based base) offset) len inside r
      → outside inside (placed (based base) offset 0 (take len (drop at pool))) ≡ map (byte_address (based base) offset) (first_byte r)
  surveyed offset at len e r s =
      let l : LiesIn (Data offset at len) pool = rw e at lies in
      s.answer (take len (drop at pool)) (length-take-le len (drop at pool) (omega (arith, l.0, length-drop at pool)))

  pub met_inside : (offset at len : ℕ) → x ≡ Data offset at len → Surveyed (byte_address (based base) offset) len inside None
      → (b : CodeBase) → Behind base x b → Met inside n base tally (meant x pool) (On b (record { records = tally.records + 1; start = tally.start }))
  unfolding acted turn does stated_by
  met_inside offset at len e s b k = let o = surveyed offset at len e None s in record { comes_to = rw (k.base_is pool, e, o, add-one tally.records) }

  pub met_outside : (offset at len i : ℕ) → x ≡ Data offset at len → Surveyed (byte_address (based base) offset) len inside (Some i)
      → Met inside n base tally (meant x pool) (Stop (refuse (OutsideWindow (byte_address (based base) offset i)) n))
  unfolding acted turn does
  met_outside offset at len i e s = let o = surveyed offset at len e (Some i) s in record { comes_to = rw (e, o) }

  pub met_end : x ≡ EndOfFile → Met inside n base tally (meant x pool) (Stop (Ok tally))
  unfolding acted turn does
  met_end e = record { comes_to = rw e }

  -- a record that does nothing
  pub met_quiet : does (based base) (meant x pool) ≡ [] → stated_by (based base) (meant x pool) ≡ []
      → (b : CodeBase) → Behind base x b → Met inside n base tally (meant x pool) (On b tally)
  unfolding acted
  met_quiet d q b k = record { comes_to = rw (k.base_is pool, d, q) }

  -- a start that the record states, kept or refused
  pub met_start : (s : Start) (stated : CodeStart) → told_start stated ≡ some s → does (based base) (meant x pool) ≡ starts s ∷ [] → stated_by (based base) (meant x pool) ≡ []
      → (b : CodeBase) → Behind base x b → (t : Taken) → MeetsStart n b tally stated t → Met inside n base tally (meant x pool) t
  met_start s stated e d q b k (On b' tally') m = record { comes_to = rw (← (k.base_is pool), d, q) (m.comes_to inside s e) }
  met_start s stated e d q b k (Stop l) m = record { comes_to = rw (← (k.base_is pool), d) (m.comes_to inside s e) }

-- ---- a start

module _ (n : ℕ) (base : CodeBase) (tally : CodeTally) (stated : CodeStart) where
  pub start_refused : differ (told_start tally.start) (told_start stated) ≡ true → MeetsStart n base tally stated (Stop (refuse StartConflict n))
  unfolding acted turn
  start_refused d = record { comes_to = λ inside s e. let h : differ (told_start tally.start) (some s) ≡ true = rw e at d in rw h }

  pub start_kept : differ (told_start tally.start) (told_start stated) ≡ false → MeetsStart n base tally stated (On base (record { records = tally.records; start = stated }))
  unfolding acted turn
  start_kept d =
      record {
        comes_to = λ inside s e.
            let h : differ (told_start tally.start) (some s) ≡ false = rw e at d in
            rw (h, e) (ap (λ (o : Option Start). on (record { state = based base; tally = record { records = tally.records; start = o }; stated = [] })) (sym (kept_so (told_start tally.start) s h)));
      }

-- ---- a record that passes

module _ (inside : ℕ → Bool) (n : ℕ) (base : Base) (t : Tally) (st : Standing Base) where
  -- where the load goes on with a tally, data counts one, and a start counts none
  few_data : (what : List Placement) (o : Option ℕ) → onward (at_data n o t) [] (λ k. on (record { state = base; tally = k; stated = what })) ≡ on st
      → st.tally.records ≤ suc t.records
  few_data what none e = let r : record { state = base; tally = one_more t; stated = what } ≡ st = cc in omega (arith, ap (λ (x : Standing Base). x.tally.records) r)
  few_data what (some a) e = let z : ◌≡◌ {A = ℕ} 0 1 = cc in absurd (omega arith)

  few_start : (s : Start) (b : Bool)
      → onward (if b then steps.stop (refused start_conflict n) else steps.on (started s t)) [] (λ k. on (record { state = base; tally = k; stated = [] })) ≡ on st
      → st.tally.records ≤ suc t.records
  few_start s true e = let z : ◌≡◌ {A = ℕ} 0 1 = cc in absurd (omega arith)
  few_start s false e = let r : record { state = base; tally = started s t; stated = [] } ≡ st = cc in omega (arith, ap (λ (x : Standing Base). x.tally.records) r)

  few_quiet : (b : Base) → on (record { state = b; tally = t; stated = [] }) ≡ on st → st.tally.records ≤ suc t.records
  few_quiet b e = let r : record { state = b; tally = t; stated = [] } ≡ st = cc in omega (arith, ap (λ (x : Standing Base). x.tally.records) r)

  -- it is not the end, and it counts one at most
  pub passes : (m : Meaning) → acted inside n (base_behind base m) t [] (does base m) ≡ on st → (is_end m ≡ false) × (st.tally.records ≤ suc t.records)
  unfolding acted turn does base_behind is_end
  passes (data_at offset bytes) e = (refl, few_data (placed base offset 0 bytes) (outside inside (placed base offset 0 bytes)) e)
  passes end_of_file e = let z : ◌≡◌ {A = ℕ} 0 1 = cc in absurd (omega arith)
  passes (extended_segment k) e = (refl, few_quiet _ e)
  passes (start_segment cs ip) e = (refl, few_start (cs_with_ip cs ip) (differ t.start (some (cs_with_ip cs ip))) e)
  passes (extended_linear k) e = (refl, few_quiet _ e)
  passes (start_linear k) e = (refl, few_start (linear_address k) (differ t.start (some (linear_address k))) e)

-- ---- the second pass

-- a record without data leaves page and marks as they are
pub idle : (site : ℕ → Option ℕ) (base : Base) (x : Record) (pool page marks : List ℕ) → ((offset at len : ℕ) → x ≡ Data offset at len → ⊥)
    → Painted site (stated_by base (meant x pool)) page marks page marks
unfolding stated_by
idle site base (Data offset at len) pool page marks n = absurd (n offset at len refl)
idle site base EndOfFile pool page marks n = painted_nothing site page marks
idle site base (ExtendedSegmentAddress k) pool page marks n = painted_nothing site page marks
idle site base (StartSegmentAddress cs ip) pool page marks n = painted_nothing site page marks
idle site base (ExtendedLinearAddress k) pool page marks n = painted_nothing site page marks
idle site base (StartLinearAddress k) pool page marks n = painted_nothing site page marks

module _ (site : ℕ → Option ℕ) (base : Base) (x : Record) (pool page marks : List ℕ) where
  pub painted_data : (offset at len : ℕ) (page' marks' : List ℕ) → x ≡ Data offset at len
      → Painted site (placed base offset 0 (take (at + len - at) (drop at pool))) page marks page' marks' → Painted site (stated_by base (meant x pool)) page marks page' marks'
  unfolding stated_by
  painted_data offset at len page' marks' e p = rw e (rw (part_is pool at len) at p)
