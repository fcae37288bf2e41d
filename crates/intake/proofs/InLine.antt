-- Intel's records and S-records take the bytes that are kept of a line as they take the line that these stand for, and so with a line as it is. Their
-- tails do too.
-- Assumes nothing.
use Rattle.std.proofs.Common.{◌≡◌, ℕ, Bool, true, false, eqb, List, [], ◌∷◌, ◌++◌, get_or, sym, refl, ap, ◌∙◌, ap₂}
use mathlib.Core.Option.{Option, none, some}
use Rattle.digits.specs.Common.{Every}
use Rattle.std.specs.Prelude.{if◌then◌else◌}
use Rattle.digits.specs.Digits.{digit}
use Rattle.digits.proofs.Tests.{both_ways}
use Rattle.record.specs.Refusals.{Refusal, record_too_long, unsupported_record_type, count_mismatch, start_conflict}
use Rattle.record.specs.Line.{Said, says, wrong}
use Rattle.record.specs.Line as intel-line
use Rattle.record.specs.Meaning.{Meaning, data_at, end_of_file, extended_segment, start_segment, extended_linear, start_linear, meaning}
use Rattle.chunks.specs.Begun.{brief, stands_for}
use Rattle.chunks.specs.Helpers.{refusal_in_line}
use Rattle.chunks.proofs.Brief.{brief_judged}
use Rattle.chunks.proofs.Moved.{said_in_line, NamesPlaces, said_whole, said_kept, intel_names}
use Rattle.steps.specs.Steps.{Placement, Action, places, starts, counts, finishes, fails, Tally, turn, differ}
use Rattle.steps.specs.Steps as steps
use Rattle.steps.specs.Source.{Source}
use Rattle.steps.specs.Taken.{Standing, Went, placed_by, onward, acted, at_line}
use Rattle.srec.specs.Types.{is_named}
use Rattle.srec.specs.Line.{judge}
use Rattle.srec.proofs.Claims.{names_the_offender}
use Rattle.intel.specs.Placing.{Base, does, act, base_after, intel_by, intel}
use Rattle.srecload.specs.Placing.{SMeaning, s_header, s_data, s_count, s_end, s_meaning, s_does, s_act, s_records}
use Rattle.intake.specs.Past.{ends, ends_text, passed, past}
use Rattle.intake.specs.Helpers.{in_line, KeptSo}
use Rattle.intake.proofs.Brief.{s_long}

-- the judge of S-records names places
s_names : NamesPlaces judge
unfolding s_long
s_names =
    record {
      judges = s_long;
      names = λ line r e two. let (place, f, is) = (names_the_offender line r).0 (e, two) in (place, f.inside, is);
      stays = λ m front.
          let t : ℕ = digit (get_or front 0 0) in
          both_ways (λ b. let said : Said = if b then wrong record_too_long else wrong (unsupported_record_type t) in said_in_line m said ≡ said) (is_named t) refl refl;
    }

-- ---- what actions come to

-- only the refusal of a line may name a byte of it
abbrev NamesNone : Action → Type 0
NamesNone (places what) = Unit
NamesNone (starts s) = Unit
NamesNone (counts c) = Unit
NamesNone finishes = Unit
NamesNone (fails r) = ⊥

module _ {S : Type 0} (inside : ℕ → Bool) (n m : ℕ) (s : S) where
  turn_stays : (a : Action) → NamesNone a → (t : Tally) (ps : List Placement) (later : Tally → Went S) → ((t' : Tally) → in_line m (later t') ≡ later t')
      → in_line m (onward (turn inside t n a) ps later) ≡ onward (turn inside t n a) ps later
  unfolding turn
  turn_stays (places what) o t ps later e = go (steps.outside inside what)
    where
      go : (out : Option ℕ) → in_line m (onward (steps.at_data n out t) ps later) ≡ onward (steps.at_data n out t) ps later
      go none = e (steps.one_more t)
      go (some address) = refl
  turn_stays (starts x) o t ps later e =
      both_ways (λ b. let w : Went S = onward (if b then steps.stop (steps.refused start_conflict n) else steps.on (steps.started x t)) ps later in in_line m w ≡ w) (differ t.start (some x)) refl (e (steps.started x t))
  turn_stays (counts c) o t ps later e =
      both_ways (λ b. let w : Went S = onward (if b then steps.on t else steps.stop (steps.refused (count_mismatch c t.records) n)) ps later in in_line m w ≡ w) (eqb c t.records) (e t) refl
  turn_stays finishes o t ps later e = refl
  turn_stays (fails r) o t ps later e = absurd o

  acted_stays : (acts : List Action) → Every NamesNone acts → (t : Tally) (ps : List Placement) → in_line m (acted inside n s t ps acts) ≡ acted inside n s t ps acts
  unfolding acted
  acted_stays [] o t ps = refl
  acted_stays (a ∷ acts) (o, os) t ps = turn_stays a o t ps (λ t'. acted inside n s t' (ps ++ placed_by a) acts) (λ t'. acted_stays acts os t' (ps ++ placed_by a))

-- ---- a source that acts by what a judge says

record ActsBy (J : List ℕ → Said) {S : Type 0} (src : Source S) : Type 0 where
  acts : S → Said → List Action
  leaves : S → Said → S
  act_is : (s : S) (line : List ℕ) → src.act s line ≡ acts s (J line)
  next_is : (s : S) (line : List ℕ) → src.next s line ≡ leaves s (J line)
  refused : (s : S) (r : Refusal) → acts s (wrong r) ≡ fails r ∷ []
  passed : (s : S) (kind address : ℕ) (payload : List ℕ) → Every NamesNone (acts s (says kind address payload))

module _ {S : Type 0} (src : Source S) (J : List ℕ → Said) (by : ActsBy J src) where
  module _ (inside : ℕ → Bool) (n : ℕ) (st : Standing S) where
    abbrev came : Said → Went S
    came said = acted inside n (by.leaves st.state said) st.tally st.stated (by.acts st.state said)

    line_came : (line : List ℕ) → at_line src inside n st line ≡ came (J line)
    unfolding at_line
    line_came line = ap₂ (λ (s : S) (acts : List Action). acted inside n s st.tally st.stated acts) (by.next_is st.state line) (by.act_is st.state line)

    came_moved : (m : ℕ) (said : Said) → in_line m (came said) ≡ came (said_in_line m said)
    unfolding acted turn
    came_moved m (says kind address payload) = acted_stays inside n m _ (by.acts st.state (says kind address payload)) (by.passed st.state kind address payload) st.tally st.stated
    came_moved m (wrong r) = rw (by.refused st.state r, by.refused st.state (refusal_in_line m r))

    -- if what is said of bytes, in their line, is said of a line, they come to what it comes to
    moved : (m : ℕ) (bytes line : List ℕ) → said_in_line m (J bytes) ≡ J line → in_line m (at_line src inside n st bytes) ≡ at_line src inside n st line
    moved m bytes line e = ap (in_line m) (line_came bytes) ∙ came_moved m (J bytes) ∙ ap came e ∙ sym (line_came line)

  -- a tail: a refusal ends no text, wherever its place is
  ends_moved : (m : ℕ) (said : Said) → ends (by.acts src.beginning said) ≡ ends (by.acts src.beginning (said_in_line m said))
  ends_moved m (says kind address payload) = refl
  ends_moved m (wrong r) = rw (by.refused src.beginning r, by.refused src.beginning (refusal_in_line m r))

  ends_as : (line : List ℕ) → ends_text src line ≡ ends (by.acts src.beginning (J line))
  ends_as line = ap ends (by.act_is src.beginning line)

  passes_all : (at_end : Bool) → Every NamesNone (passed at_end)
  passes_all true = (tt, tt)
  passes_all false = tt

  past_moved : (inside : ℕ → Bool) (n : ℕ) (st : Standing Unit) (m : ℕ) (bytes line : List ℕ) → said_in_line m (J bytes) ≡ J line
      → in_line m (at_line (past src) inside n st bytes) ≡ at_line (past src) inside n st line
  unfolding at_line
  past_moved inside n st m bytes line e =
      let same : ends_text src bytes ≡ ends_text src line = ends_as bytes ∙ ends_moved m (J bytes) ∙ ap (λ (said : Said). ends (by.acts src.beginning said)) e ∙ sym (ends_as line) in
      ap (λ (b : Bool). in_line m (acted inside n tt st.tally st.stated (passed b))) same
      ∙ acted_stays inside n m tt (passed (ends_text src line)) (passes_all (ends_text src line)) st.tally st.stated

-- ---- a source that takes bytes as a line, if what is said of them, in their line, is said of the line

module _ {S : Type 0} (src : Source S) (J : List ℕ → Said) (names : NamesPlaces J)
    (moves : (inside : ℕ → Bool) (n : ℕ) (st : Standing S) (m : ℕ) (bytes line : List ℕ) → said_in_line m (J bytes) ≡ J line → in_line m (at_line src inside n st bytes) ≡ at_line src inside n st line) where
  kept_so : KeptSo src
  kept_so =
      record {
        in_carry = λ inside n st k few. moves inside n st k.skipped k.bytes (stands_for k) (said_kept J names k few);
        in_chunk = λ inside n st line. moves inside n st 0 line (stands_for (brief line)) (said_whole J names line ∙ sym (brief_judged J names.judges line));
      }

-- ---- both sources

does_passes : (base : Base) (x : Meaning) → Every NamesNone (does base x)
unfolding does
does_passes base (data_at offset bytes) = (tt, tt)
does_passes base end_of_file = (tt, tt)
does_passes base (extended_segment number) = tt
does_passes base (start_segment cs ip) = (tt, tt)
does_passes base (extended_linear number) = tt
does_passes base (start_linear number) = (tt, tt)

intel_acts : ActsBy intel-line.judge intel
unfolding intel_by act
intel_acts =
    record {
      acts = act;
      leaves = base_after;
      act_is = λ base line. refl;
      next_is = λ base line. refl;
      refused = λ base r. refl;
      passed = λ base kind address payload. does_passes base (meaning kind address payload);
    }

pub intel_kept_so : KeptSo intel
intel_kept_so = kept_so intel intel-line.judge intel_names (moved intel intel-line.judge intel_acts)

pub past_intel_kept_so : KeptSo (past intel)
past_intel_kept_so = kept_so (past intel) intel-line.judge intel_names (past_moved intel intel-line.judge intel_acts)

s_does_passes : (x : SMeaning) → Every NamesNone (s_does x)
unfolding s_does
s_does_passes s_header = tt
s_does_passes (s_data address bytes) = (tt, tt)
s_does_passes (s_count stated) = (tt, tt)
s_does_passes (s_end address) = (tt, (tt, tt))

s_acts : ActsBy judge s_records
unfolding s_records s_act
s_acts =
    record {
      acts = λ s. s_act;
      leaves = λ s said. tt;
      act_is = λ s line. refl;
      next_is = λ s line. refl;
      refused = λ s r. refl;
      passed = λ s kind address payload. s_does_passes (s_meaning kind address payload);
    }

pub s_records_kept_so : KeptSo s_records
s_records_kept_so = kept_so s_records judge s_names (moved s_records judge s_acts)

pub past_s_records_kept_so : KeptSo (past s_records)
past_s_records_kept_so = kept_so (past s_records) judge s_names (past_moved s_records judge s_acts)
