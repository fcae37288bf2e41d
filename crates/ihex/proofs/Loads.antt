-- The claims of `specs/Loads.antt`: those of a load of any source, in numbers. The code says whether a load was accepted.
-- Assumes nothing.
use Prim.Native.Nat.{ℕ}
use mathlib.Core.Path.{◌≡◌, refl, sym, ◌∙◌, ap, subst}
use mathlib.Core.Logic.{◌≢◌}
use mathlib.Core.Bool.{Bool}
use mathlib.Core.Option.{Option, none, some}
use mathlib.Core.List.{List, [], ◌∷◌, ◌++◌}
use native.Mathlib.Omega.{arith}
use lib.ListN.{length, get_or}
use Rattle.digits.specs.Common.{Every}
use Rattle.marks.specs.Marks.{mark_at, flags, UnusedClear}
use Rattle.record.specs.Refusals.{Refusal, bad_window}
use Rattle.reader.specs.Lines.{lines}
use Rattle.steps.specs.Steps.{Start, cs_with_ip, linear_address, Tally, Verdict, accepted, refused}
use Rattle.steps.specs.Source.{Source}
use Rattle.steps.specs.Account.{Account, AllPass}
use Rattle.window.specs.Window.{within}
use Rattle.window.specs.Load.{load_window}
use Rattle.window.specs.Loads.{Alike}
use Rattle.window.specs.Claims.{Window}
use Rattle.window.specs.Reasons.{WhyIn, bad_one, no_end, at_line, LoadReasons, LoadOneReason}
use Rattle.window.proofs.Loads.{non_interference, same_placements, what_is_stored, refusal_changes_nothing}
use Rattle.window.proofs.AsBytes.{packed_as_bytes}
use Rattle.intel.specs.Placing.{intel}
use Rattle.intel.specs.Lines.{Stops, the_end, no_record, first_outside, start_differs, account}
use Rattle.loader.proofs.Claims.{reasons}
use Rattle.loader.proofs.OneReason.{one_reason}
use Rattle.intel.proofs.Puts.{none_ends}
use Rattle.srecload.specs.Placing.{s_records}
use Rattle.srecload.specs.Claims as s-claims
use Rattle.srecload.specs.Claims.{account as s-account}
use Rattle.srecload.proofs.Claims.{reasons as s-reasons}
use Rattle.srecload.proofs.OneReason.{one_reason as s-one-reason}
use Rattle.srecload.specs.Stored.{NoEnd}
use Rattle.srecload.proofs.Stored.{none_ends as s-none-ends}
use Rattle.codes.specs.Codes.{OK, LoadNumbers, load_numbers, kind_of_start, start_values}
use Rattle.codes.proofs.Says.{was_accepted, was_refused}
use Rattle.ihex.specs.Entries.{IhexLoadBy}
use Rattle.ihex.specs.Loads.{LoadNonInterference, LoadWhatIsStored, LoadKeeps, LoadPackedAsBytes, LoadReasoned, InNumbers, no_start, cs_ip, linear, SEnd, StartTold, SStartTold, IhexLoadStart, IhexLoadSrecordsStart, LoadRefusedNoStart, IhexRefusedNoStart, IhexLoadSrecordsRefusedNoStart, IhexNonInterference, IhexWhatIsStored, IhexLoadKeeps, IhexLoadReasons, IhexPackedAsBytes, IhexLoadSrecordsNonInterference, IhexLoadSrecordsWhatIsStored, IhexLoadSrecordsKeeps, IhexLoadSrecordsReasons, IhexLoadSrecordsPackedAsBytes, IhexBothKinds}

-- ---- of any source

module _ {S : Type 0} (src : Source S) where
  -- what the code says of the answer
  module _ (text : List ℕ) (first : ℕ) (page marks : List ℕ) (r : LoadNumbers) (p m : List ℕ) (x : IhexLoadBy src text first page marks r p m) where
    pub accepts : r.code ≡ OK → (tally : Tally) × ((load_window src text first page marks).answer ≡ accepted tally)
    accepts ok = was_accepted (load_window src text first page marks).answer (ap (λ (n : LoadNumbers). n.code) (sym x.numbers) ∙ ok)

    pub refuses : r.code ≢ OK → (w : Refusal) × (line : ℕ) × ((load_window src text first page marks).answer ≡ refused w line)
    refuses h = was_refused (load_window src text first page marks).answer (λ e. h (ap (λ (n : LoadNumbers). n.code) x.numbers ∙ e))

  pub load_non_interference : LoadNonInterference src
  load_non_interference text₁ text₂ first page₁ marks₁ page₂ marks₂ lp lm line v e head t₁ t₂ r₁ p₁ m₁ r₂ p₂ m₂ x y =
      let alike : Alike (load_window src text₁ first page₁ marks₁) (load_window src text₂ first page₂ marks₂) =
      non_interference S src text₁ text₂ first page₁ marks₁ page₂ marks₂ lp lm line v e head t₁ t₂ in (
        x.numbers ∙ ap load_numbers alike.answers ∙ sym y.numbers,
        λ ok.
            let (tally, k) = accepts text₁ first page₁ marks₁ r₁ p₁ m₁ x ok in (
              x.marks_is ∙ alike.marks tally k ∙ sym y.marks_is,
              λ i one.
                  ap (λ (l : List ℕ). get_or l i 0) x.page_is ∙ alike.bytes tally k i (ap (λ (l : List ℕ). mark_at l i) (sym x.marks_is) ∙ one)
                  ∙ ap (λ (l : List ℕ). get_or l i 0) (sym y.page_is),
            ),
      )

  pub load_what_is_stored : LoadWhatIsStored src
  load_what_is_stored text first page marks r p m x ok i h =
      let (tally, k) = accepts text first page marks r p m x ok in
      rw (x.page_is, x.marks_is) (what_is_stored S src text first page marks tally k i h)

  pub load_keeps : LoadKeeps src
  load_keeps text first page marks r p m x h =
      let (w, line, k) = refuses text first page marks r p m x h in
      let kept = refusal_changes_nothing S src text first page marks w line k in
      (x.page_is ∙ kept.0, x.marks_is ∙ kept.1)

  pub load_refused_no_start : LoadRefusedNoStart src
  load_refused_no_start text first page marks r p m x h =
      let (w, line, k) = refuses text first page marks r p m x h in ap (λ (n : LoadNumbers). n.start) (x.numbers ∙ ap load_numbers k)

  -- by a reason for the verdict that no other verdict has
  pub load_reasoned : (account : (inside : ℕ → Bool) → Account) → LoadReasons src account → LoadOneReason src account → LoadReasoned src account
  load_reasoned account reasons one text first page marks r p m x =
      let v = (load_window src text first page marks).answer in
      record {
        verdict = v;
        why = reasons text first page marks;
        told = x.numbers;
        only = λ w because. one text first page marks w v because (reasons text first page marks);
      }

  pub load_packed_as_bytes : LoadPackedAsBytes src
  load_packed_as_bytes text first page marks byte-marks r p m both x =
      let u = packed_as_bytes S src text first page marks byte-marks both in
      record {
        told = x.numbers ∙ ap load_numbers u.answers;
        page_is = x.page_is ∙ u.pages;
        unpacked = λ ok. let (tally, k) = accepts text first page marks r p m x ok in ap (flags (length page)) x.marks_is ∙ u.unpacked tally k;
        unused = λ ok. let (tally, k) = accepts text first page marks r p m x ok in subst (UnusedClear (length page)) (sym x.marks_is) (u.unused tally k);
      }

-- ---- the start

-- the numbers of an accepted load
pub start_numbers : (r : LoadNumbers) (t : Tally) → r ≡ load_numbers (accepted t) → InNumbers r t.start
start_numbers r t e = rw e (go t.start refl)
  where
    go : (o : Option Start) → t.start ≡ o → InNumbers (load_numbers (accepted t)) o
    go none q = no_start (ap kind_of_start q) (ap (λ (s : Option Start). get_or (start_values s) 0 0) q) (ap (λ (s : Option Start). get_or (start_values s) 1 0) q)
    go (some (cs_with_ip cs ip)) q =
        cs_ip cs ip (ap kind_of_start q) (ap (λ (s : Option Start). get_or (start_values s) 0 0) q) (ap (λ (s : Option Start). get_or (start_values s) 1 0) q)
    go (some (linear_address address)) q =
        linear address (ap kind_of_start q) (ap (λ (s : Option Start). get_or (start_values s) 0 0) q) (ap (λ (s : Option Start). get_or (start_values s) 1 0) q)

-- by the reason of an acceptance: the line that decides is the end record
module _ (text : List ℕ) (Good Bad : Type 0) (bad : Refusal) (inside : ℕ → Bool) (r : LoadNumbers) where
  at_end : (t : Tally) → r ≡ load_numbers (accepted t) → (ahead : List (List ℕ)) (line : List ℕ) (later : List (List ℕ)) (n : ℕ) (v : Verdict)
      → lines text ≡ ahead ++ (line ∷ later) → AllPass (account inside) [] ahead → Stops inside ahead line n v → v ≡ accepted t → StartTold text r
  at_end t e ahead line later n v w pass (the_end tally is c) q =
      let same : tally ≡ t = cc in
      (ahead, tally.start, record { line = line; later = later; whole = w; last = is; none_earlier = none_ends inside [] ahead pass }, c.start, start_numbers r tally (rw (← same) at e))
  at_end t e ahead line later n v w pass (no_record f b is) q = let z : ◌≡◌ {A = ℕ} 0 1 = cc in absurd (omega arith)
  at_end t e ahead line later n v w pass (first_outside before after pl is i o) q = let z : ◌≡◌ {A = ℕ} 0 1 = cc in absurd (omega arith)
  at_end t e ahead line later n v w pass (start_differs s first_start is h d) q = let z : ◌≡◌ {A = ℕ} 0 1 = cc in absurd (omega arith)

  pub start_by_reason : (t : Tally) → r ≡ load_numbers (accepted t) → {v : Verdict} → WhyIn intel account text Good Bad bad inside v → v ≡ accepted t → StartTold text r
  start_by_reason t e (bad_one w) q = let z : ◌≡◌ {A = ℕ} 0 1 = cc in absurd (omega arith)
  start_by_reason t e (no_end w all) q = let z : ◌≡◌ {A = ℕ} 0 1 = cc in absurd (omega arith)
  start_by_reason t e (at_line n v w d) q = at_end t e d.ahead d.line d.later n v d.whole d.pass d.stops q

pub ihex_load_start : IhexLoadStart
ihex_load_start text first page marks r p m x ok =
    let (t, k) = accepts intel text first page marks r p m x ok in
    start_by_reason text (Window first page marks) (¬ Window first page marks) bad_window (within first (length page)) r t (x.numbers ∙ ap load_numbers k) (reasons text first page marks) k

none_earlier : (ls : List (List ℕ)) → Every NoEnd ls → Every (λ (line : List ℕ). ¬ SEnd line) ls
none_earlier [] h = tt
none_earlier (l ∷ ls) (n, h) = (λ e. n e.0 e.1, none_earlier ls h)

module _ (text : List ℕ) (Good Bad : Type 0) (bad : Refusal) (inside : ℕ → Bool) (r : LoadNumbers) where
  s_at_end : (t : Tally) → r ≡ load_numbers (accepted t) → (ahead : List (List ℕ)) (line : List ℕ) (later : List (List ℕ)) (n : ℕ) (v : Verdict)
      → lines text ≡ ahead ++ (line ∷ later) → AllPass (s-account inside) [] ahead → s-claims.Stops inside ahead line n v → v ≡ accepted t → SStartTold text r
  s_at_end t e ahead line later n v w pass (s-claims.the_end address is) q =
      let same : record { records = s-claims.data_records ahead; start = some (linear_address address) } ≡ t = cc in
      (ahead, record { line = line; later = later; whole = w; last = (address, is); none_earlier = none_earlier ahead (s-none-ends inside [] ahead pass) }, start_numbers r _ (rw (← same) at e))
  s_at_end t e ahead line later n v w pass (s-claims.no_record f b is) q = let z : ◌≡◌ {A = ℕ} 0 1 = cc in absurd (omega arith)
  s_at_end t e ahead line later n v w pass (s-claims.first_outside before after pl is i o) q = let z : ◌≡◌ {A = ℕ} 0 1 = cc in absurd (omega arith)
  s_at_end t e ahead line later n v w pass (s-claims.count_differs c is d) q = let z : ◌≡◌ {A = ℕ} 0 1 = cc in absurd (omega arith)

  pub s_start_by_reason : (t : Tally) → r ≡ load_numbers (accepted t) → {v : Verdict} → WhyIn s_records s-account text Good Bad bad inside v → v ≡ accepted t → SStartTold text r
  s_start_by_reason t e (bad_one w) q = let z : ◌≡◌ {A = ℕ} 0 1 = cc in absurd (omega arith)
  s_start_by_reason t e (no_end w all) q = let z : ◌≡◌ {A = ℕ} 0 1 = cc in absurd (omega arith)
  s_start_by_reason t e (at_line n v w d) q = s_at_end t e d.ahead d.line d.later n v d.whole d.pass d.stops q

pub ihex_load_srecords_start : IhexLoadSrecordsStart
ihex_load_srecords_start text first page marks r p m x ok =
    let (t, k) = accepts s_records text first page marks r p m x ok in
    s_start_by_reason text (Window first page marks) (¬ Window first page marks) bad_window (within first (length page)) r t (x.numbers ∙ ap load_numbers k) (s-reasons text first page marks) k

pub ihex_refused_no_start : IhexRefusedNoStart
ihex_refused_no_start = load_refused_no_start intel

pub ihex_load_srecords_refused_no_start : IhexLoadSrecordsRefusedNoStart
ihex_load_srecords_refused_no_start = load_refused_no_start s_records

-- ---- of Intel HEX

pub ihex_non_interference : IhexNonInterference
ihex_non_interference = load_non_interference intel

pub ihex_what_is_stored : IhexWhatIsStored
ihex_what_is_stored = load_what_is_stored intel

pub ihex_load_keeps : IhexLoadKeeps
ihex_load_keeps = load_keeps intel

pub ihex_load_reasons : IhexLoadReasons
ihex_load_reasons = load_reasoned intel account reasons one_reason

pub ihex_packed_as_bytes : IhexPackedAsBytes
ihex_packed_as_bytes = load_packed_as_bytes intel

-- ---- of S-records

pub ihex_load_srecords_non_interference : IhexLoadSrecordsNonInterference
ihex_load_srecords_non_interference = load_non_interference s_records

pub ihex_load_srecords_what_is_stored : IhexLoadSrecordsWhatIsStored
ihex_load_srecords_what_is_stored = load_what_is_stored s_records

pub ihex_load_srecords_keeps : IhexLoadSrecordsKeeps
ihex_load_srecords_keeps = load_keeps s_records

pub ihex_load_srecords_reasons : IhexLoadSrecordsReasons
ihex_load_srecords_reasons = load_reasoned s_records s-account s-reasons s-one-reason

pub ihex_load_srecords_packed_as_bytes : IhexLoadSrecordsPackedAsBytes
ihex_load_srecords_packed_as_bytes = load_packed_as_bytes s_records

-- ---- of both

pub ihex_both_kinds : IhexBothKinds
ihex_both_kinds text text' first page marks marks' r p m x ok r' p' m' y ok' same =
    let (t, k) = accepts intel text first page marks r p m x ok in
    let (t', k') = accepts s_records text' first page marks' r' p' m' y ok' in
    let (pages, marks-same) = same_placements _ _ intel s_records text text' first page marks marks' t t' k k' same in
    (x.page_is ∙ pages ∙ sym y.page_is, x.marks_is ∙ marks-same ∙ sym y.marks_is)
