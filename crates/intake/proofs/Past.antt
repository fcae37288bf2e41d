-- A text that is passed over: which line ends it, what its steps come to, and that it ends where a load accepts.
-- Assumes nothing.
use Rattle.std.proofs.Common.{◌≡◌, ℕ, suc, ◌≤◌, Bool, true, false, eqb, ltb, List, [], ◌∷◌, ◌++◌, ◌⊎◌, inl, inr, map, sym, refl, ap, ◌∙◌, subst, arith}
use mathlib.Core.Option.{Option, none, some}
use Rattle.std.specs.Prelude.{if◌then◌else◌}
use Rattle.record.specs.Line.{Said, says, wrong}
use Rattle.record.specs.Line as intel-line
use Rattle.record.specs.Meaning.{Meaning, data_at, end_of_file, extended_segment, start_segment, extended_linear, start_linear, meaning}
use Rattle.record.specs.Refusals.{start_conflict, count_mismatch}
use Rattle.record.specs.Record.{type_of, meant}
use Rattle.record.specs.declared.Record.{Record}
use Rattle.record.specs.declared.Record.TheVariants.{Data, EndOfFile, ExtendedSegmentAddress, StartSegmentAddress, ExtendedLinearAddress, StartLinearAddress}
use Rattle.reader.specs.Lines.{lines}
use Rattle.reader.specs.declared.ReaderError.{ReaderError}
use Rattle.reader.specs.Told.{refusal_of}
use Rattle.srec.specs.declared.SType.{SType}
use Rattle.srec.specs.declared.SType.TheVariants.{S0, S1, S2, S3, S5, S7, S8, S9}
use Rattle.srec.specs.declared.SRecord.{SRecord}
use Rattle.srec.specs.Record.{digit_of}
use Rattle.srec.specs.Line as srec-line
use Rattle.steps.specs.Steps.{Action, places, starts, counts, finishes, fails, Step, step, Tally, nothing_yet, Verdict, accepted, refused, Turn, Decision, by, outside, differ, at_data, started, turn, onward, decision, stated}
use Rattle.steps.specs.Steps as steps
use Rattle.steps.specs.Source.{Source, steps_of}
use Rattle.steps.specs.Source as source
use Rattle.steps.specs.Taken.{Standing, on, acted, at_line}
use Rattle.intel.specs.Placing.{Base, does, act, intel_by, intel}
use Rattle.intel.proofs.Calls.{ReadAs}
use Rattle.srecload.specs.Placing.{s_meaning, s_does, s_act, s_records}
use Rattle.srecload.proofs.Reading.{Came}
use Rattle.intake.specs.Past.{ends, ends_text, passed, past, EndsAlike, PastExamples}
use Rattle.intake.specs.Claims.{PastBriefly, PastCountsOne, PastStatesNothing, PastNeverRefuses, PastWhatIsAccepted}

pub past_examples : PastExamples
unfolding intel_by act does intel-line.judge meaning s_records s_act s_does s_meaning srec-line.judge
past_examples = ((refl, (refl, (refl, (refl, (refl, (refl, tt)))))), (refl, (refl, (refl, (refl, (refl, (refl, (refl, tt))))))))

-- ---- which line ends a text

does_alike : (base base' : Base) (m : Meaning) → ends (does base m) ≡ ends (does base' m)
unfolding does
does_alike base base' (data_at offset bytes) = refl
does_alike base base' end_of_file = refl
does_alike base base' (extended_segment number) = refl
does_alike base base' (start_segment cs ip) = refl
does_alike base base' (extended_linear number) = refl
does_alike base base' (start_linear number) = refl

act_alike : (base base' : Base) (said : Said) → ends (act base said) ≡ ends (act base' said)
unfolding act
act_alike base base' (says kind address payload) = does_alike base base' (meaning kind address payload)
act_alike base base' (wrong r) = refl

pub intel_ends_alike : EndsAlike intel
unfolding intel_by
intel_ends_alike base base' line = act_alike base base' (intel-line.judge line)

pub s_records_ends_alike : EndsAlike s_records
unfolding s_records
s_records_ends_alike s s' line = refl

-- a record of type 01 does, and no other
record_ends : (base : Base) (x : Record) (pool : List ℕ) → eqb (type_of x) 1 ≡ ends (does base (meant x pool))
unfolding does
record_ends base (Data offset at len) pool = refl
record_ends base EndOfFile pool = refl
record_ends base (ExtendedSegmentAddress n) pool = refl
record_ends base (StartSegmentAddress cs ip) pool = refl
record_ends base (ExtendedLinearAddress n) pool = refl
record_ends base (StartLinearAddress n) pool = refl

hex_by_type : (line pool : List ℕ) (x : Record) → ReadAs line pool x → eqb (type_of x) 1 ≡ ends_text intel line
unfolding intel_by act
hex_by_type line pool x said = rw (said.is_said, ← said.means) (record_ends intel.beginning x pool)

pub hex_end : (line pool : List ℕ) (x : Record) → ReadAs line pool x → x ≡ EndOfFile → true ≡ ends_text intel line
hex_end line pool x said is = ap (λ (y : Record). eqb (type_of y) 1) (sym is) ∙ hex_by_type line pool x said

no_end : (x : Record) → (x ≡ EndOfFile → ⊥) → false ≡ eqb (type_of x) 1
no_end (Data offset at len) h = refl
no_end EndOfFile h = absurd (h refl)
no_end (ExtendedSegmentAddress n) h = refl
no_end (StartSegmentAddress cs ip) h = refl
no_end (ExtendedLinearAddress n) h = refl
no_end (StartLinearAddress n) h = refl

pub hex_other : (line pool : List ℕ) (x : Record) → ReadAs line pool x → (x ≡ EndOfFile → ⊥) → false ≡ ends_text intel line
hex_other line pool x said not = no_end x not ∙ hex_by_type line pool x said

pub hex_refused : (line : List ℕ) (e : ReaderError) → intel-line.judge line ≡ wrong (refusal_of e) → false ≡ ends_text intel line
unfolding intel_by act
hex_refused line e said = rw said

-- an S-record of type 7, 8 or 9 does, and no other
type_ends : (t : SType) (address : ℕ) (payload : List ℕ) → ltb 5 (digit_of t) ≡ ends (s_does (s_meaning (digit_of t) address payload))
unfolding s_does s_meaning
type_ends S0 address payload = refl
type_ends S1 address payload = refl
type_ends S2 address payload = refl
type_ends S3 address payload = refl
type_ends S5 address payload = refl
type_ends S7 address payload = refl
type_ends S8 address payload = refl
type_ends S9 address payload = refl

s_by_type : (line pool : List ℕ) (x : SRecord) → Came line pool x → ltb 5 (digit_of x.kind) ≡ ends_text s_records line
unfolding s_records s_act
s_by_type line pool x came = rw came.said (type_ends x.kind x.address _)

s_end_type : (t : SType) → (t ≡ S7) ⊎ ((t ≡ S8) ⊎ (t ≡ S9)) → true ≡ ltb 5 (digit_of t)
s_end_type t (inl e) = rw e
s_end_type t (inr (inl e)) = rw e
s_end_type t (inr (inr e)) = rw e

pub s_end : (line pool : List ℕ) (x : SRecord) → Came line pool x → (x.kind ≡ S7) ⊎ ((x.kind ≡ S8) ⊎ (x.kind ≡ S9)) → true ≡ ends_text s_records line
s_end line pool x came is = s_end_type x.kind is ∙ s_by_type line pool x came

s_other_type : (t : SType) → (t ≡ S7 → ⊥) → (t ≡ S8 → ⊥) → (t ≡ S9 → ⊥) → false ≡ ltb 5 (digit_of t)
s_other_type S0 h h' h'' = refl
s_other_type S1 h h' h'' = refl
s_other_type S2 h h' h'' = refl
s_other_type S3 h h' h'' = refl
s_other_type S5 h h' h'' = refl
s_other_type S7 h h' h'' = absurd (h refl)
s_other_type S8 h h' h'' = absurd (h' refl)
s_other_type S9 h h' h'' = absurd (h'' refl)

pub s_other : (line pool : List ℕ) (x : SRecord) → Came line pool x → (x.kind ≡ S7 → ⊥) → (x.kind ≡ S8 → ⊥) → (x.kind ≡ S9 → ⊥) → false ≡ ends_text s_records line
s_other line pool x came h h' h'' = s_other_type x.kind h h' h'' ∙ s_by_type line pool x came

pub s_refused : (line : List ℕ) (e : ReaderError) → srec-line.judge line ≡ wrong (refusal_of e) → false ≡ ends_text s_records line
unfolding s_records s_act
s_refused line e said = rw said

-- ---- what a tail comes to

pub past_briefly : PastBriefly
past_briefly S src kept = record { acts = λ s line. ap (λ (acts : List Action). passed (ends acts)) (kept.acts src.beginning line); leaves = λ s line. refl }

pub past_counts_one : PastCountsOne
unfolding at_line acted turn
past_counts_one S src inside n st st' line e = go (ends_text src line) e
  where
    go : (b : Bool) → acted inside n tt st.tally st.stated (passed b) ≡ on st' → st'.tally.records ≤ suc st.tally.records
    go true q = let z : ◌≡◌ {A = ℕ} 0 1 = cc in absurd (omega arith)
    go false q =
        let r : record { state = tt; tally = st.tally; stated = st.stated } ≡ st' = cc in
        omega (arith, ap (λ (x : Standing Unit). x.tally.records) r)

module _ {S : Type 0} (src : Source S) where
  states_none : (n : ℕ) (ls : List (List ℕ)) → stated (source.steps (past src) tt n ls) ≡ []
  unfolding source.steps stated
  states_none n [] = refl
  states_none n ([] ∷ ls) = states_none (suc n) ls
  states_none n ((c ∷ line) ∷ ls) = go (ends_text src (c ∷ line)) (states_none (suc n) ls)
    where
      go : (b : Bool) → stated (source.steps (past src) tt (suc n) ls) ≡ [] → stated (map (step n) (passed b) ++ source.steps (past src) tt (suc n) ls) ≡ []
      go true ih = refl
      go false ih = ih

  -- what decides, if something does
  abbrev NothingMet : Option Decision → Type 0
  NothingMet d = (n : ℕ) (v : Verdict) → d ≡ some (by n v) → v ≡ accepted nothing_yet

  nothing_met : (inside : ℕ → Bool) (n : ℕ) (ls : List (List ℕ)) → NothingMet (decision inside nothing_yet (source.steps (past src) tt n ls))
  unfolding source.steps decision turn
  nothing_met inside n [] m v e = let z : ◌≡◌ {A = ℕ} 0 1 = cc in absurd (omega arith)
  nothing_met inside n ([] ∷ ls) m v e = nothing_met inside (suc n) ls m v e
  nothing_met inside n ((c ∷ line) ∷ ls) m v e = go (ends_text src (c ∷ line)) (nothing_met inside (suc n) ls) m v e
    where
      go : (b : Bool) → NothingMet (decision inside nothing_yet (source.steps (past src) tt (suc n) ls))
          → NothingMet (decision inside nothing_yet (map (step n) (passed b) ++ source.steps (past src) tt (suc n) ls))
      go true ih m v e = let same : accepted nothing_yet ≡ v = cc in sym same
      go false ih m v e = ih m v e

pub past_states_nothing : PastStatesNothing
unfolding steps_of
past_states_nothing S src text = states_none src 1 (lines text)

pub past_never_refuses : PastNeverRefuses
unfolding steps_of
past_never_refuses S src inside text n v e = nothing_met src inside 1 (lines text) n v e

-- ---- what a load accepts

-- actions of line n after which a load is accepted by line m: one of them ends the text and m is n, or none does and what follows is accepted
abbrev Accepts : (inside : ℕ → Bool) (n m : ℕ) (k : Tally) (rest : List Step) (at_end : Bool) → Type 0
Accepts inside n m k rest true = n ≡ m
Accepts inside n m k rest false = (t : Tally) × (decision inside t rest ≡ some (by m (accepted k)))

module _ (inside : ℕ → Bool) (n m : ℕ) (k : Tally) (rest : List Step) where
  -- an action that is no end and lets the load be accepted lets it go on
  abbrev Later : (acts : List Action) → Type 0
  Later acts = (t : Tally) → decision inside t (map (step n) acts ++ rest) ≡ some (by m (accepted k)) → Accepts inside n m k rest (ends acts)

  abbrev first_then : (acts : List Action) → Turn → Option Decision
  first_then acts x = onward n x (λ t. decision inside t (map (step n) acts ++ rest))

  accepts : (acts : List Action) → Later acts
  unfolding decision turn
  accepts [] t e = (t, e)
  accepts (places what ∷ acts) t e = go (outside inside what) e (accepts acts)
    where
      go : (o : Option ℕ) → first_then acts (at_data n o t) ≡ some (by m (accepted k)) → Later acts → Accepts inside n m k rest (ends acts)
      go none q later = later (steps.one_more t) q
      go (some address) q later = let z : ◌≡◌ {A = ℕ} 0 1 = cc in absurd (omega arith)
  accepts (starts s ∷ acts) t e = go (differ t.start (some s)) e (accepts acts)
    where
      go : (b : Bool) → first_then acts (if b then steps.stop (refused start_conflict n) else steps.on (started s t)) ≡ some (by m (accepted k)) → Later acts → Accepts inside n m k rest (ends acts)
      go true q later = let z : ◌≡◌ {A = ℕ} 0 1 = cc in absurd (omega arith)
      go false q later = later (started s t) q
  accepts (counts c ∷ acts) t e = go (eqb c t.records) e (accepts acts)
    where
      go : (b : Bool) → first_then acts (if b then steps.on t else steps.stop (refused (count_mismatch c t.records) n)) ≡ some (by m (accepted k)) → Later acts → Accepts inside n m k rest (ends acts)
      go true q later = later t q
      go false q later = let z : ◌≡◌ {A = ℕ} 0 1 = cc in absurd (omega arith)
  accepts (finishes ∷ acts) t e = let same : n ≡ m = cc in same
  accepts (fails r ∷ acts) t e = let z : ◌≡◌ {A = ℕ} 0 1 = cc in absurd (omega arith)

pub past_what_is_accepted : PastWhatIsAccepted
unfolding source.steps decision turn
past_what_is_accepted S src inside t k s n m [] alike e = let z : ◌≡◌ {A = ℕ} 0 1 = cc in absurd (omega arith)
past_what_is_accepted S src inside t k s n m ([] ∷ ls) alike e = past_what_is_accepted S src inside t k s (suc n) m ls alike e
past_what_is_accepted S src inside t k s n m ((c ∷ line) ∷ ls) alike e =
    go (ends_text src (c ∷ line))
    (subst (Accepts inside n m k (source.steps src (src.next s (c ∷ line)) (suc n) ls)) (alike s src.beginning (c ∷ line)) (accepts inside n m k _ (src.act s (c ∷ line)) t e))
    (λ t' q. past_what_is_accepted S src inside t' k (src.next s (c ∷ line)) (suc n) m ls alike q)
  where
    later : List Step
    later = source.steps (past src) tt (suc n) ls

    go : (b : Bool) → Accepts inside n m k (source.steps src (src.next s (c ∷ line)) (suc n) ls) b
        → ((t' : Tally) → decision inside t' (source.steps src (src.next s (c ∷ line)) (suc n) ls) ≡ some (by m (accepted k)) → decision inside nothing_yet later ≡ some (by m (accepted nothing_yet)))
        → decision inside nothing_yet (map (step n) (passed b) ++ later) ≡ some (by m (accepted nothing_yet))
    go true same ih = ap (λ (i : ℕ). some (by i (accepted nothing_yet))) same
    go false (t', q) ih = ih t' q
