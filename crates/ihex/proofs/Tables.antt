-- The claims of `specs/Tables.antt`: what `window` and `table` prove of a load through a table, in numbers.
-- Assumes nothing.
use Prim.Native.Nat.{ℕ, ◌+◌, ◌%◌, ◌<◌}
use mathlib.Core.Path.{◌≡◌, refl, sym, ap, ◌∙◌}
use mathlib.Core.Logic.{◌≢◌, ◌↔◌, ◌⊎◌, inl, inr}
use mathlib.Core.Bool.{Bool, true, false, not, ◌||◌, true≢false}
use mathlib.Core.List.{List, [], ◌∷◌}
use native.Mathlib.Omega.{arith}
use lib.Dec.{eqb}
use lib.ListN.{length, get_or}
use borrow.Author.Tests.{eqb-true, eqb-false}
use Rattle.std.specs.Prelude.{if◌then◌else◌}
use Rattle.marks.specs.Marks.{mark_at}
use Rattle.record.specs.Refusals.{Refusal, refusal, bad_table}
use Rattle.steps.specs.Steps.{Step, Tally, Verdict, accepted, refused}
use Rattle.steps.specs.Source.{Source, steps_of}
use Rattle.steps.specs.Sites.{Loaded}
use Rattle.steps.specs.Account.{Account, one_of, Among}
use Rattle.steps.specs.Owners.{Event, load_by, loads_of}
use Rattle.window.specs.declared.Row.{Row}
use Rattle.window.specs.Table.{IsOwner, row, fits, inside_of, BadTable}
use Rattle.window.specs.Tables.{load_rows, load_table, SameFor, Cabinet, cabinet_after, answers_for}
use Rattle.window.specs.Reasons.{WhyIn, bad_one, no_end, at_line, TableReasons, TableOneReason}
use Rattle.window.proofs.Table.{refused_exactly, good_window_of}
use Rattle.window.proofs.Tables.{load_bad_table, table_what_is_stored, table_unused_stay, table_refusal_changes_nothing, table_as_window, table_isolation}
use Rattle.intel.specs.Placing.{Base, intel}
use Rattle.intel.specs.Lines.{account, line_refusals}
use Rattle.loader.proofs.Claims.{reasons_by_table, total_by_table}
use Rattle.intel.proofs.Claims.{lines_give}
use Rattle.loader.proofs.OneReason.{one_reason_by_table}
use Rattle.srecload.specs.Placing.{s_records}
use Rattle.srecload.specs.Claims.{account as s-account, line_refusals as s-line-refusals}
use Rattle.srecload.proofs.Claims.{reasons_by_table as s-reasons-by-table, lines_give as s-lines-give, total_by_table as s-total-by-table}
use Rattle.srecload.proofs.OneReason.{one_reason_by_table as s-one-reason-by-table}
use Rattle.entries.specs.Entry.{rows_of}
use Rattle.table.specs.Load.{torn, load_bytes, IsBad}
use Rattle.table.specs.Claims.{BadBytes}
use Rattle.table.proofs.Claims.{whole_table_loads, torn_table_refused, bytes_non_interference, bad_for_both}
use Rattle.codes.specs.Codes.{OK, BAD_TABLE, LoadNumbers, load_numbers}
use Rattle.codes.proofs.Says.{was_accepted, was_refused}
use Rattle.ihex.proofs.Loads.{start_by_reason, s_start_by_reason}
use Rattle.ihex.specs.Entries.{IhexLoadTableBy}
use Rattle.ihex.specs.Tables.{IhexCheckTableExactly, TableTorn, IhexLoadTableTorn, IhexLoadSrecordsTableTorn, TableReturns, IhexLoadTableReturns, IhexLoadSrecordsTableReturns, TableRefusedExactly, IhexLoadTableRefusedExactly, IhexLoadSrecordsTableRefusedExactly, IhexLoadTableStart, IhexLoadSrecordsTableStart, TableRefusedNoStart, IhexLoadTableRefusedNoStart, IhexLoadSrecordsTableRefusedNoStart, TableReasoned, IhexLoadTableReasons, IhexLoadSrecordsTableReasons, TableKeeps, IhexLoadTableKeeps, IhexLoadSrecordsTableKeeps, TableStores, IhexLoadTableWhatIsStored, IhexLoadSrecordsTableWhatIsStored, TableLeavesUnused, IhexLoadTableUnusedStay, IhexLoadSrecordsTableUnusedStay, TableHearsNoMore, IhexLoadTableNonInterference, IhexLoadSrecordsTableNonInterference, Called, with_intel, with_s_records, caller, MeetsItsContract, TableCalls, no_more, one_more, calls_of, returns_to, IhexOwnersIsolated, TableOfOne, IhexLoadTableOfOne, IhexLoadSrecordsTableOfOne, OneTableLoad, IhexLoadTableUnique, IhexLoadSrecordsTableUnique, IhexCheckTableUnique}

-- ---- of any source

module _ {S : Type 0} (src : Source S) where
  module _ (text : List ℕ) (owner : ℕ) (table pool marks : List ℕ) (r : LoadNumbers) (p m : List ℕ) (x : IhexLoadTableBy src text owner table pool marks r p m) where
    -- of whole windows, the load of the windows
    pub as_windows : length table % 24 ≡ 0 → load_bytes src text owner table pool marks ≡ load_table src owner (rows_of table) text pool marks
    as_windows w = whole_table_loads S src text owner table pool marks w

    pub accepts : r.code ≡ OK → (tally : Tally) × ((load_bytes src text owner table pool marks).answer ≡ accepted tally)
    accepts ok = was_accepted (load_bytes src text owner table pool marks).answer (ap (λ (n : LoadNumbers). n.code) (sym x.numbers) ∙ ok)

    refuses : r.code ≢ OK → (w : Refusal) × (line : ℕ) × ((load_bytes src text owner table pool marks).answer ≡ refused w line)
    refuses h = was_refused (load_bytes src text owner table pool marks).answer (λ e. h (ap (λ (n : LoadNumbers). n.code) x.numbers ∙ e))

    -- what is torn is refused, so what is accepted is whole
    pub whole : (tally : Tally) → (load_bytes src text owner table pool marks).answer ≡ accepted tally → length table % 24 ≡ 0
    whole tally e = go (eqb (length table % 24) 0) refl
      where
        go : (b : Bool) → eqb (length table % 24) 0 ≡ b → length table % 24 ≡ 0
        go true q = eqb-true (length table % 24) 0 q
        go false q =
            let t = ap (λ (l : Loaded). l.answer) (torn_table_refused S src text owner table pool marks (eqb-false (length table % 24) 0 q)) in
            let z : ◌≡◌ {A = ℕ} 0 1 = cc in absurd (omega arith)

  table_torn : TableTorn src
  table_torn text owner table pool marks r p m x n =
      let t = torn_table_refused S src text owner table pool marks n in
      let q : r ≡ load_numbers (refused bad_table 0) = x.numbers ∙ ap (λ (l : Loaded). load_numbers l.answer) t in (
        ap (λ (k : LoadNumbers). k.code) q,
        ap (λ (k : LoadNumbers). k.line) q,
        x.pool_is ∙ ap (λ (l : Loaded). l.page) t,
        x.marks_is ∙ ap (λ (l : Loaded). l.marks) t,
      )

  -- a reason that gives 23 is the table's
  module _ (account : (inside : ℕ → Bool) → Account) (numbers : List ℕ) (not-23 : one_of numbers 23 ≡ false)
      (lines_give : (inside : ℕ → Bool) (ahead : List (List ℕ)) (line : List ℕ) (n : ℕ) (v : Verdict) → (account inside).stops ahead line n v → Among numbers v) (reasons : TableReasons src account) where
    not_a_line : (v : Verdict) → Among numbers v → (load_numbers v).code ≡ BAD_TABLE → ⊥
    not_a_line (accepted t) h e = omega arith
    not_a_line (refused (refusal n vs) line) h e =
        let q : n ≡ 23 = omega arith in
        let z : true ≡ false = sym (rw q at h) ∙ not-23 in true≢false z

    only_bad : (text : List ℕ) (Good Bad : Type 0) (inside : ℕ → Bool) {v : Verdict} → WhyIn src account text Good Bad bad_table inside v → (load_numbers v).code ≡ BAD_TABLE → Bad × (v ≡ refused bad_table 0)
    only_bad text Good Bad inside (bad_one w) e = (w, refl)
    only_bad text Good Bad inside (no_end w all) e = absurd (omega arith)
    only_bad text Good Bad inside (at_line n v w d) e = absurd (not_a_line v (lines_give inside d.ahead d.line n v d.stops) e)

    table_refused_exactly : TableRefusedExactly src
    table_refused_exactly text owner table pool marks r p m x = go (eqb (length table % 24) 0) refl
      where
        Bad : Type 0
        Bad = BadTable owner (length pool) (length marks) (rows_of table)

        go : (b : Bool) → eqb (length table % 24) 0 ≡ b → ((r.code ≡ BAD_TABLE) ↔ BadBytes owner table (length pool) (length marks)) × (r.code ≡ BAD_TABLE → r.line ≡ 0)
        go false q =
            let n = eqb-false (length table % 24) 0 q in
            let (c, l, k, j) = table_torn text owner table pool marks r p m x n in
            ((λ e. inl n, λ bad. c), λ e. l)
        go true q =
            let w = eqb-true (length table % 24) 0 q in
            let a = as_windows text owner table pool marks r p m x w in
            let said : r ≡ load_numbers (load_table src owner (rows_of table) text pool marks).answer = x.numbers ∙ ap (λ (l : Loaded). load_numbers l.answer) a in
            let found : r.code ≡ BAD_TABLE → Bad × ((load_table src owner (rows_of table) text pool marks).answer ≡ refused bad_table 0) = λ e. only_bad text (¬ Bad) Bad (inside_of owner (rows_of table)) (reasons owner (rows_of table) text pool marks) (ap (λ (k : LoadNumbers). k.code) (sym said) ∙ e) in (
              (λ e. inr (found e).0, back w said),
              λ e. ap (λ (k : LoadNumbers). k.line) (said ∙ ap load_numbers (found e).1),
            )
          where
            back : length table % 24 ≡ 0 → r ≡ load_numbers (load_table src owner (rows_of table) text pool marks).answer → BadBytes owner table (length pool) (length marks) → r.code ≡ BAD_TABLE
            back w said (inl n) = absurd (n w)
            back w said (inr bad) =
                let l = load_bad_table src owner (rows_of table) text pool marks ((refused_exactly owner (length pool) (length marks) (rows_of table)).1 bad) in
                ap (λ (k : LoadNumbers). k.code) (said ∙ ap load_numbers (sym l.answer))

  -- an answer in numbers, by the number of its refusal
  in_list : (numbers : List ℕ) (v : Verdict) → Among numbers v → ((load_numbers v).code ≡ OK) ⊎ ((n : ℕ) × (one_of numbers n ≡ true) × ((load_numbers v).code ≡ 256 + n))
  in_list numbers (accepted t) h = inl refl
  in_list numbers (refused (refusal n vs) line) h = inr (n, h, refl)

  table_returns : (numbers : List ℕ) → one_of numbers 23 ≡ true
      → ((owner : ℕ) (rows : List Row) (text pool marks : List ℕ) → Among numbers (load_table src owner rows text pool marks).answer) → TableReturns src numbers
  table_returns numbers has total text owner table pool marks r p m x = go (eqb (length table % 24) 0) refl
    where
      go : (b : Bool) → eqb (length table % 24) 0 ≡ b → (r.code ≡ OK) ⊎ ((n : ℕ) × (one_of numbers n ≡ true) × (r.code ≡ 256 + n))
      go false q = inr (23, has, (table_torn text owner table pool marks r p m x (eqb-false (length table % 24) 0 q)).0)
      go true q =
          let a = as_windows text owner table pool marks r p m x (eqb-true (length table % 24) 0 q) in
          rw (x.numbers ∙ ap (λ (l : Loaded). load_numbers l.answer) a) (in_list numbers (load_table src owner (rows_of table) text pool marks).answer (total owner (rows_of table) text pool marks))

  table_refused_no_start : TableRefusedNoStart src
  table_refused_no_start text owner table pool marks r p m x h =
      let (w, line, k) = refuses text owner table pool marks r p m x h in ap (λ (n : LoadNumbers). n.start) (x.numbers ∙ ap load_numbers k)

  table_keeps : TableKeeps src
  table_keeps text owner table pool marks r p m x h = go (eqb (length table % 24) 0) refl
    where
      go : (b : Bool) → eqb (length table % 24) 0 ≡ b → (p ≡ pool) × (m ≡ marks)
      go false q = let (a, b, c, d) = table_torn text owner table pool marks r p m x (eqb-false (length table % 24) 0 q) in (c, d)
      go true q =
          let (w, line, k) = refuses text owner table pool marks r p m x h in
          let a = as_windows text owner table pool marks r p m x (eqb-true (length table % 24) 0 q) in
          let kept = table_refusal_changes_nothing S src owner (rows_of table) text pool marks w line (ap (λ (l : Loaded). l.answer) (sym a) ∙ k) in
          (x.pool_is ∙ ap (λ (l : Loaded). l.page) a ∙ kept.0, x.marks_is ∙ ap (λ (l : Loaded). l.marks) a ∙ kept.1)

  table_stores : TableStores src
  table_stores text owner table pool marks r p m x ok i h =
      let (tally, k) = accepts text owner table pool marks r p m x ok in
      let a = as_windows text owner table pool marks r p m x (whole text owner table pool marks r p m x tally k) in
      let e = x.pool_is ∙ ap (λ (l : Loaded). l.page) a in
      let f = x.marks_is ∙ ap (λ (l : Loaded). l.marks) a in
      rw (e, f) (table_what_is_stored S src owner (rows_of table) text pool marks tally (ap (λ (l : Loaded). l.answer) (sym a) ∙ k) i h)

  table_leaves_unused : TableLeavesUnused src
  table_leaves_unused text owner table pool marks r p m x i h = go (eqb (length table % 24) 0) refl
    where
      go : (b : Bool) → eqb (length table % 24) 0 ≡ b → mark_at m i ≡ mark_at marks i
      go false q = let (a, b, c, d) = table_torn text owner table pool marks r p m x (eqb-false (length table % 24) 0 q) in ap (λ (l : List ℕ). mark_at l i) d
      go true q =
          let a = as_windows text owner table pool marks r p m x (eqb-true (length table % 24) 0 q) in
          ap (λ (l : List ℕ). mark_at l i) (x.marks_is ∙ ap (λ (l : Loaded). l.marks) a) ∙ table_unused_stay S src owner (rows_of table) text pool marks i h

  table_hears_no_more : TableHearsNoMore src
  table_hears_no_more text₁ text₂ owner table pool₁ marks₁ pool₂ marks₂ lp lm line v e head t₁ t₂ r₁ p₁ m₁ r₂ p₂ m₂ x y =
      let alike = bytes_non_interference S src owner table text₁ text₂ pool₁ marks₁ pool₂ marks₂ lp lm line v e head t₁ t₂ in (
        x.numbers ∙ ap load_numbers alike.answers ∙ sym y.numbers,
        λ ok i h s.
            let (tally, k) = accepts text₁ owner table pool₁ marks₁ r₁ p₁ m₁ x ok in (
              ap (λ (l : List ℕ). mark_at l i) x.marks_is ∙ alike.marks tally k i h s ∙ ap (λ (l : List ℕ). mark_at l i) (sym y.marks_is),
              λ one. ap (λ (l : List ℕ). get_or l i 0) x.pool_is ∙ alike.bytes tally k i h s (ap (λ (l : List ℕ). mark_at l i) (sym x.marks_is) ∙ one) ∙ ap (λ (l : List ℕ). get_or l i 0) (sym y.pool_is),
            ),
      )

  table_of_one : TableOfOne src
  table_of_one text owner first table pool marks good q r p m r' p' m' x y = go (eqb (length table % 24) 0) refl
    where
      go : (b : Bool) → eqb (length table % 24) 0 ≡ b → (r ≡ r') × (p ≡ p') × ((i : ℕ) → i < length pool → mark_at m i ≡ mark_at m' i)
      go false e = absurd (good (inl (eqb-false (length table % 24) 0 e)))
      go true e =
          let a = as_windows text owner table pool marks r p m x (eqb-true (length table % 24) 0 e) in
          let b : load_bytes src text owner table pool marks ≡ load_table src owner (row owner first (length pool) 0 ∷ []) text pool marks = a ∙ ap (λ (rows : List Row). load_table src owner rows text pool marks) q in
          let (o, u) = good_window_of owner first (length pool) (length marks) (λ bad. good (inr (rw q bad))) in
          let (e, f, g) = table_as_window S src owner first text pool marks o u in (
            x.numbers ∙ ap (λ (z : Loaded). load_numbers z.answer) b ∙ ap load_numbers e ∙ sym y.numbers,
            x.pool_is ∙ ap (λ (z : Loaded). z.page) b ∙ f ∙ sym y.page_is,
            λ i h. ap (λ (z : List ℕ). mark_at z i) (x.marks_is ∙ ap (λ (z : Loaded). z.marks) b) ∙ g i h ∙ ap (λ (z : List ℕ). mark_at z i) (sym y.marks_is),
          )

  table_reasoned : (account : (inside : ℕ → Bool) → Account) → TableReasons src account → TableOneReason src account → TableReasoned src account
  table_reasoned account reasons one text owner table pool marks r p m x w =
      let v = (load_table src owner (rows_of table) text pool marks).answer in
      record {
        verdict = v;
        why = reasons owner (rows_of table) text pool marks;
        told = x.numbers ∙ ap (λ (l : Loaded). load_numbers l.answer) (as_windows text owner table pool marks r p m x w);
        only = λ k because. one owner (rows_of table) text pool marks k v because (reasons owner (rows_of table) text pool marks);
      }

  one_table_load : OneTableLoad src
  one_table_load text owner table pool marks r r' p p' m m' x y = (x.numbers ∙ sym y.numbers, x.pool_is ∙ sym y.pool_is, x.marks_is ∙ sym y.marks_is)

-- ---- of both

pub ihex_load_table_torn : IhexLoadTableTorn
ihex_load_table_torn = table_torn intel

pub ihex_load_srecords_table_torn : IhexLoadSrecordsTableTorn
ihex_load_srecords_table_torn = table_torn s_records

pub ihex_load_table_refused_exactly : IhexLoadTableRefusedExactly
ihex_load_table_refused_exactly = table_refused_exactly intel account line_refusals refl lines_give reasons_by_table

pub ihex_load_srecords_table_refused_exactly : IhexLoadSrecordsTableRefusedExactly
ihex_load_srecords_table_refused_exactly = table_refused_exactly s_records s-account s-line-refusals refl s-lines-give s-reasons-by-table

pub ihex_load_table_returns : IhexLoadTableReturns
ihex_load_table_returns = table_returns intel (13 ∷ 23 ∷ line_refusals) refl total_by_table

pub ihex_load_srecords_table_returns : IhexLoadSrecordsTableReturns
ihex_load_srecords_table_returns = table_returns s_records (13 ∷ 23 ∷ s-line-refusals) refl s-total-by-table

pub ihex_load_table_start : IhexLoadTableStart
ihex_load_table_start text owner table pool marks r p m x ok =
    let (t, k) = accepts intel text owner table pool marks r p m x ok in
    let a = as_windows intel text owner table pool marks r p m x (whole intel text owner table pool marks r p m x t k) in
    let Bad = BadTable owner (length pool) (length marks) (rows_of table) in
    start_by_reason text (¬ Bad) Bad bad_table (inside_of owner (rows_of table)) r t (x.numbers ∙ ap load_numbers k) (reasons_by_table owner (rows_of table) text pool marks) (ap (λ (l : Loaded). l.answer) (sym a) ∙ k)

pub ihex_load_srecords_table_start : IhexLoadSrecordsTableStart
ihex_load_srecords_table_start text owner table pool marks r p m x ok =
    let (t, k) = accepts s_records text owner table pool marks r p m x ok in
    let a = as_windows s_records text owner table pool marks r p m x (whole s_records text owner table pool marks r p m x t k) in
    let Bad = BadTable owner (length pool) (length marks) (rows_of table) in
    s_start_by_reason text (¬ Bad) Bad bad_table (inside_of owner (rows_of table)) r t (x.numbers ∙ ap load_numbers k) (s-reasons-by-table owner (rows_of table) text pool marks) (ap (λ (l : Loaded). l.answer) (sym a) ∙ k)

pub ihex_load_table_refused_no_start : IhexLoadTableRefusedNoStart
ihex_load_table_refused_no_start = table_refused_no_start intel

pub ihex_load_srecords_table_refused_no_start : IhexLoadSrecordsTableRefusedNoStart
ihex_load_srecords_table_refused_no_start = table_refused_no_start s_records

pub ihex_load_table_reasons : IhexLoadTableReasons
ihex_load_table_reasons = table_reasoned intel account reasons_by_table one_reason_by_table

pub ihex_load_srecords_table_reasons : IhexLoadSrecordsTableReasons
ihex_load_srecords_table_reasons = table_reasoned s_records s-account s-reasons-by-table s-one-reason-by-table

pub ihex_load_table_keeps : IhexLoadTableKeeps
ihex_load_table_keeps = table_keeps intel

pub ihex_load_srecords_table_keeps : IhexLoadSrecordsTableKeeps
ihex_load_srecords_table_keeps = table_keeps s_records

pub ihex_load_table_what_is_stored : IhexLoadTableWhatIsStored
ihex_load_table_what_is_stored = table_stores intel

pub ihex_load_srecords_table_what_is_stored : IhexLoadSrecordsTableWhatIsStored
ihex_load_srecords_table_what_is_stored = table_stores s_records

pub ihex_load_table_unused_stay : IhexLoadTableUnusedStay
ihex_load_table_unused_stay = table_leaves_unused intel

pub ihex_load_srecords_table_unused_stay : IhexLoadSrecordsTableUnusedStay
ihex_load_srecords_table_unused_stay = table_leaves_unused s_records

pub ihex_load_table_non_interference : IhexLoadTableNonInterference
ihex_load_table_non_interference = table_hears_no_more intel

pub ihex_load_srecords_table_non_interference : IhexLoadSrecordsTableNonInterference
ihex_load_srecords_table_non_interference = table_hears_no_more s_records

pub ihex_load_table_of_one : IhexLoadTableOfOne
ihex_load_table_of_one = table_of_one intel

pub ihex_load_srecords_table_of_one : IhexLoadSrecordsTableOfOne
ihex_load_srecords_table_of_one = table_of_one s_records

pub ihex_load_table_unique : IhexLoadTableUnique
ihex_load_table_unique = one_table_load intel

pub ihex_load_srecords_table_unique : IhexLoadSrecordsTableUnique
ihex_load_srecords_table_unique = one_table_load s_records

-- ---- a table that is checked

pub ihex_check_table_unique : IhexCheckTableUnique
ihex_check_table_unique table pool marks r r' x y = x.answer ∙ sym y.answer

pub ihex_check_table_exactly : IhexCheckTableExactly
ihex_check_table_exactly table pool marks r x = go (torn table || not (fits 1 pool marks (rows_of table))) refl
  where
    bad : (b : Bool) → torn table || not (fits 1 pool marks (rows_of table)) ≡ b → IsBad table pool marks b
    bad b e = record { answer = sym e }

    go : (b : Bool) → torn table || not (fits 1 pool marks (rows_of table)) ≡ b
        → ((r ≡ OK) ⊎ (r ≡ BAD_TABLE)) × ((owner : ℕ) → IsOwner owner → (r ≡ BAD_TABLE) ↔ BadBytes owner table pool marks)
    go true e =
        let q : r ≡ BAD_TABLE = x.answer ∙ rw e in
        (inr q, λ owner o. let (there, back) = bad_for_both table pool marks true (bad true e) owner o in (λ _. there refl, λ _. q))
    go false e =
        let q : r ≡ OK = x.answer ∙ rw e in
        (inl q, λ owner o. let (there, back) = bad_for_both table pool marks false (bad false e) owner o in (λ z. absurd (omega arith), λ b. let f : ◌≡◌ {A = ℕ} 0 1 = apart (back b) in absurd (omega arith)))
      where
        apart : ◌≡◌ {A = Bool} false true → ◌≡◌ {A = ℕ} 0 1
        apart f = cc

-- ---- isolation

-- what a call does, as a load of steps
unfoldable pub did : Called → Event
did (with_intel owner text) = load_by owner (steps_of intel text)
did (with_s_records owner text) = load_by owner (steps_of s_records text)

unfoldable pub all_did : List Called → List Event
unfolding did
all_did [] = []
all_did (call ∷ calls) = did call ∷ all_did calls

unfoldable pub in_numbers : List Verdict → List LoadNumbers
in_numbers [] = []
in_numbers (v ∷ vs) = load_numbers v ∷ in_numbers vs

module _ (me : ℕ) where
  -- the same calls do the same
  did_of : (calls : List Called) → loads_of me (all_did calls) ≡ loads_of me (all_did (calls_of me calls))
  unfolding all_did did loads_of
  did_of [] = refl
  did_of (with_intel owner text ∷ calls) = go (eqb owner me) refl (did_of calls)
    where
      go : (b : Bool) → eqb owner me ≡ b → loads_of me (all_did calls) ≡ loads_of me (all_did (calls_of me calls))
          → (if b then load_by owner (steps_of intel text) ∷ loads_of me (all_did calls) else loads_of me (all_did calls)) ≡ loads_of me (all_did (if b then with_intel owner text ∷ calls_of me calls else calls_of me calls))
      go true e q = rw e (ap (λ (l : List Event). load_by owner (steps_of intel text) ∷ l) q)
      go false e q = q
  did_of (with_s_records owner text ∷ calls) = go (eqb owner me) refl (did_of calls)
    where
      go : (b : Bool) → eqb owner me ≡ b → loads_of me (all_did calls) ≡ loads_of me (all_did (calls_of me calls))
          → (if b then load_by owner (steps_of s_records text) ∷ loads_of me (all_did calls) else loads_of me (all_did calls)) ≡ loads_of me (all_did (if b then with_s_records owner text ∷ calls_of me calls else calls_of me calls))
      go true e q = rw e (ap (λ (l : List Event). load_by owner (steps_of s_records text) ∷ l) q)
      go false e q = q

module _ (me : ℕ) (table : List ℕ) (w : length table % 24 ≡ 0) where
  abbrev rows : List Row
  rows = rows_of table

  -- a call leaves what the load of its steps leaves, and returns its answer in numbers
  pub record StepOf (b : Cabinet) (owner : ℕ) (steps : List Step) (r : LoadNumbers) (pool' marks' : List ℕ) : Type 0 where
    pub pool_is : pool' ≡ (load_rows owner (rows_of table) steps b.pool b.marks).page
    pub marks_is : marks' ≡ (load_rows owner (rows_of table) steps b.pool b.marks).marks
    pub numbers : r ≡ load_numbers (load_rows owner (rows_of table) steps b.pool b.marks).answer

  a_step : {S : Type 0} (src : Source S) (b : Cabinet) (owner : ℕ) (text : List ℕ) (r : LoadNumbers) (pool' marks' : List ℕ)
      → IhexLoadTableBy src text owner table b.pool b.marks r pool' marks' → StepOf b owner (steps_of src text) r pool' marks'
  unfolding load_table
  a_step src b owner text r pool' marks' x =
      let a = as_windows src text owner table b.pool b.marks r pool' marks' x w in
      record {
        pool_is = x.pool_is ∙ ap (λ (l : Loaded). l.page) a;
        marks_is = x.marks_is ∙ ap (λ (l : Loaded). l.marks) a;
        numbers = x.numbers ∙ ap (λ (l : Loaded). load_numbers l.answer) a;
      }

  -- so do calls one after the other
  pub record AsLoads (b : Cabinet) (calls : List Called) (returns : List LoadNumbers) (b' : Cabinet) : Type 0 where
    pub left : b' ≡ cabinet_after (rows_of table) (all_did calls) b
    pub returned : returns_to me calls returns ≡ in_numbers (answers_for me (rows_of table) (all_did calls) b)

  module _ (b b'' : Cabinet) (owner : ℕ) (steps : List Step) (call : Called) (is-caller : caller call ≡ owner) (is-did : did call ≡ load_by owner steps) (calls : List Called) (returns : List LoadNumbers)
      (r : LoadNumbers) (pool' marks' : List ℕ) (s : StepOf b owner steps r pool' marks') (later : AsLoads (record { pool = pool'; marks = marks' }) calls returns b'') where
    next : Cabinet
    next = record { pool = (load_rows owner (rows_of table) steps b.pool b.marks).page; marks = (load_rows owner (rows_of table) steps b.pool b.marks).marks }

    is_next : ◌≡◌ {A = Cabinet} (record { pool = pool'; marks = marks' }) next
    unfolding next
    is_next = λ j. record { pool = s.pool_is j; marks = s.marks_is j }

    with_one : AsLoads b (call ∷ calls) (r ∷ returns) b''
    unfolding all_did cabinet_after answers_for in_numbers next
    with_one =
        record {
          left = later.left ∙ ap (cabinet_after (rows_of table) (all_did calls)) is_next ∙ rw is-did;
          returned = rw (is-did, is-caller) (go (eqb owner me));
        }
      where
        same : returns_to me calls returns ≡ in_numbers (answers_for me (rows_of table) (all_did calls) next)
        same = later.returned ∙ ap (λ (c : Cabinet). in_numbers (answers_for me (rows_of table) (all_did calls) c)) is_next

        go : (t : Bool) → (if t then r ∷ returns_to me calls returns else returns_to me calls returns)
            ≡ in_numbers (if t then (load_rows owner (rows_of table) steps b.pool b.marks).answer ∷ answers_for me (rows_of table) (all_did calls) next else answers_for me (rows_of table) (all_did calls) next)
        go true = λ j. s.numbers j ∷ same j
        go false = same

  as_loads : (b b'' : Cabinet) (calls : List Called) (returns : List LoadNumbers) → TableCalls table b calls returns b'' → AsLoads b calls returns b''
  unfolding all_did did cabinet_after answers_for in_numbers
  as_loads b b'' calls returns no_more = record { left = refl; returned = refl }
  as_loads b b'' (with_intel owner text ∷ calls) (_ ∷ returns) (one_more r pool' marks' x more) =
      with_one b b'' owner (steps_of intel text) (with_intel owner text) refl refl calls returns r pool' marks' (a_step intel b owner text r pool' marks' x) (as_loads (record { pool = pool'; marks = marks' }) b'' calls returns more)
  as_loads b b'' (with_s_records owner text ∷ calls) (_ ∷ returns) (one_more r pool' marks' x more) =
      with_one b b'' owner (steps_of s_records text) (with_s_records owner text) refl refl calls returns r pool' marks' (a_step s_records b owner text r pool' marks' x) (as_loads (record { pool = pool'; marks = marks' }) b'' calls returns more)

-- ---- isolation through bytes that are no table

-- as many refusals as calls
refusals : List Called → List LoadNumbers
refusals [] = []
refusals (call ∷ calls) = load_numbers (refused bad_table 0) ∷ refusals calls

module _ (me : ℕ) (table : List ℕ) (n : length table % 24 ≢ 0) where
  -- a call is refused, and leaves what was there
  turned_away : (b : Cabinet) (call : Called) (r : LoadNumbers) (pool' marks' : List ℕ) → MeetsItsContract table b.pool b.marks call r pool' marks'
      → (r ≡ load_numbers (refused bad_table 0)) × (◌≡◌ {A = Cabinet} (record { pool = pool'; marks = marks' }) b)
  turned_away b (with_intel owner text) r pool' marks' x =
      let t = torn_table_refused Base intel text owner table b.pool b.marks n in
      (x.numbers ∙ ap (λ (l : Loaded). load_numbers l.answer) t, λ j. record { pool = (x.pool_is ∙ ap (λ (l : Loaded). l.page) t) j; marks = (x.marks_is ∙ ap (λ (l : Loaded). l.marks) t) j })
  turned_away b (with_s_records owner text) r pool' marks' x =
      let t = torn_table_refused Unit s_records text owner table b.pool b.marks n in
      (x.numbers ∙ ap (λ (l : Loaded). load_numbers l.answer) t, λ j. record { pool = (x.pool_is ∙ ap (λ (l : Loaded). l.page) t) j; marks = (x.marks_is ∙ ap (λ (l : Loaded). l.marks) t) j })

  all_turned_away : (b b'' : Cabinet) (calls : List Called) (returns : List LoadNumbers) → TableCalls table b calls returns b''
      → (b'' ≡ b) × (returns_to me calls returns ≡ refusals (calls_of me calls))
  unfolding refusals
  all_turned_away b b'' calls returns no_more = (refl, refl)
  all_turned_away b b'' (call ∷ calls) (_ ∷ returns) (one_more r pool' marks' x more) =
      let (e, same) = turned_away b call r pool' marks' x in
      let (left, later) = all_turned_away (record { pool = pool'; marks = marks' }) b'' calls returns more in
      (left ∙ same, go (eqb (caller call) me) e later)
    where
      go : (t : Bool) → r ≡ load_numbers (refused bad_table 0) → returns_to me calls returns ≡ refusals (calls_of me calls)
          → (if t then r ∷ returns_to me calls returns else returns_to me calls returns) ≡ refusals (if t then call ∷ calls_of me calls else calls_of me calls)
      go true e later = λ j. e j ∷ later j
      go false e later = later

pub ihex_owners_isolated : IhexOwnersIsolated
ihex_owners_isolated me table calls₁ calls₂ same b₁ b₂ b₁' b₂' returns₁ returns₂ lp lm before x y = go (eqb (length table % 24) 0) refl
  where
    go : (b : Bool) → eqb (length table % 24) 0 ≡ b → (returns_to me calls₁ returns₁ ≡ returns_to me calls₂ returns₂) × SameFor me (rows_of table) b₁' b₂'
    go true e =
        let w = eqb-true (length table % 24) 0 e in
        let p = as_loads me table w b₁ b₁' calls₁ returns₁ x in
        let q = as_loads me table w b₂ b₂' calls₂ returns₂ y in
        let loads = did_of me calls₁ ∙ ap (λ (l : List Called). loads_of me (all_did l)) same ∙ sym (did_of me calls₂) in
        let (answers, left) = table_isolation me (rows_of table) (all_did calls₁) (all_did calls₂) loads b₁ b₂ lp lm before in
        (p.returned ∙ ap in_numbers answers ∙ sym q.returned, rw (p.left, q.left) left)
    go false e =
        let n = eqb-false (length table % 24) 0 e in
        let (l₁, r₁) = all_turned_away me table n b₁ b₁' calls₁ returns₁ x in
        let (l₂, r₂) = all_turned_away me table n b₂ b₂' calls₂ returns₂ y in
        (r₁ ∙ ap refusals same ∙ sym r₂, rw (l₁, l₂) before)
