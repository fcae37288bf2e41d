-- The claims of `specs/Claims.antt` beyond demand 3, proved: the walk of `Reasons` gives each answer its reason, and a reason its number.
-- Assumes nothing.
use Rattle.std.proofs.Common.{◌≡◌, ℕ, Bool, true, false, List, [], length, sym, refl, ap, ◌∙◌, subst, arith}
use mathlib.Core.Option.{Option, none, some}
use Rattle.digits.specs.Digits.{number_after}
use Rattle.digits.specs.Reading.{named}
use Rattle.record.specs.Refusals.{Refusal, number_of, contains_invalid_characters, missing_end_of_file_record, bad_window, outside_window, count_mismatch, bad_table}
use Rattle.record.specs.Line.{Said, says, wrong}
use Rattle.reader.specs.Lines.{lines}
use Rattle.marks.specs.Claims.{Bytes}
use Rattle.marks.proofs.Claims.{same_bits}
use Rattle.srec.specs.Line.{judge}
use Rattle.srec.specs.Format.{Width, type_0, type_1, type_2, type_3, type_5, type_7, type_8, type_9, Format}
use Rattle.srec.specs.Faults.{Fault, no_start, no_digit, no_type, type_unknown, short, long, odd, sum_differs, length_differs, size_differs}
use Rattle.srec.proofs.Standing.{Stands, stands}
use Rattle.srec.proofs.Claims.{admits, names_the_offender}
use Rattle.steps.specs.Steps.{Placement, nothing_yet, Verdict, refused, stated}
use Rattle.steps.specs.Source as source
use Rattle.steps.specs.Account.{Decided, Among}
use Rattle.steps.specs.Taken.{Standing}
use Rattle.steps.specs.Told.{told_loading}
use Rattle.steps.proofs.Told.{told_apart}
use Rattle.window.specs.Promises.{Painted}
use Rattle.window.specs.Reasons.{bad_one, no_end, at_line}
use Rattle.window.specs.Load.{stopping_by_window, load_window}
use Rattle.window.specs.Window.{within}
use Rattle.window.specs.Claims.{Window}
use Rattle.window.specs.Table.{inside_of, BadTable}
use Rattle.window.proofs.Reasons.{load_reasons, table_reasons, why_among}
use Rattle.srecload.specs.declared.Taken.{Taken}
use Rattle.srecload.specs.declared.Taken.TheVariants.{On, Stop}
use Rattle.srecload.specs.Placing.{SMeaning, s_meaning, s_records}
use Rattle.srecload.specs.Taking.{told_taken, closed}
use Rattle.srecload.specs.Claims.{said_record, Means, of_header, of_data, of_count, of_end, RecordsByFormat, data_records, Stops, the_end, no_record, first_outside, count_differs, account, Why, Reasons, ReasonsByTable, Offends, LoadNamesTheOffender, line_refusals, TotalByTable, LinesGive, Total, TakeLineUnique, Examples}
use Rattle.srecload.proofs.Meeting.{means_header, means_data, means_count, means_end}
use Rattle.srecload.proofs.Reasons.{counted_none, walked}

pub examples : Examples
unfolding load_window stopping_by_window source.steps_of stated s_records judge s_meaning number_after
examples = record { beyond = refl; wraps = refl; sixth_place = refl; miscounted = refl; none_yet = refl; endless = refl; other_kind = refl }

-- ---- records

-- a named type means what the definition says
meant : {kind n : ℕ} (address : ℕ) (payload : List ℕ) → Width kind n → Means kind address payload (s_meaning kind address payload)
meant {kind} a p (type_0 e w) = rw (means_header kind a p e) (of_header e)
meant {kind} a p (type_1 e w) = rw (means_data kind a p (omega arith) (omega arith)) (of_data (omega arith) (omega arith))
meant {kind} a p (type_2 e w) = rw (means_data kind a p (omega arith) (omega arith)) (of_data (omega arith) (omega arith))
meant {kind} a p (type_3 e w) = rw (means_data kind a p (omega arith) (omega arith)) (of_data (omega arith) (omega arith))
meant {kind} a p (type_5 e w) = rw (means_count kind a p e) (of_count e)
meant {kind} a p (type_7 e w) = rw (means_end kind a p (omega arith) (omega arith)) (of_end (omega arith) (omega arith))
meant {kind} a p (type_8 e w) = rw (means_end kind a p (omega arith) (omega arith)) (of_end (omega arith) (omega arith))
meant {kind} a p (type_9 e w) = rw (means_end kind a p (omega arith) (omega arith)) (of_end (omega arith) (omega arith))

-- and nothing else
means_one : {kind address : ℕ} {payload : List ℕ} {m : SMeaning} → Means kind address payload m → s_meaning kind address payload ≡ m
means_one {kind} {address} {payload} (of_header e) = means_header kind address payload e
means_one {kind} {address} {payload} (of_data l h) = means_data kind address payload (omega arith) h
means_one {kind} {address} {payload} (of_count e) = means_count kind address payload e
means_one {kind} {address} {payload} (of_end l h) = means_end kind address payload (omega arith) (omega arith)

pub records_by_format : RecordsByFormat
unfolding said_record
records_by_format line m = (
  λ e. there (judge line) refl e,
  λ (kind, address, payload, f, x). ap said_record ((admits line kind address payload).1 f) ∙ ap some (means_one x),
)
  where
    there : (s : Said) → judge line ≡ s → said_record s ≡ some m → (kind : ℕ) × (address : ℕ) × (payload : List ℕ) × Format line kind address payload × Means kind address payload m
    there (says kind address payload) q e =
        let f = (admits line kind address payload).0 q in
        let same : s_meaning kind address payload ≡ m = cc in
        (kind, address, payload, f, rw same at (meant address payload f.wide))
    there (wrong r) q e = let z : ◌≡◌ {A = ℕ} 0 1 = cc in absurd (omega arith)

-- ---- reasons

pub reasons : Reasons
unfolding source.steps_of data_records s_records
reasons = load_reasons s_records account (λ inside text. walked inside (lines text) 1 [] nothing_yet counted_none)

pub reasons_by_table : ReasonsByTable
unfolding source.steps_of data_records s_records
reasons_by_table = table_reasons s_records account (λ inside text. walked inside (lines text) 1 [] nothing_yet counted_none)

-- ---- totality

refused_line : {line : List ℕ} {r : Refusal} (n : ℕ) → Fault line r → Among line_refusals (refused r n)
refused_line n (no_start a) = refl
refused_line n (no_digit p f) = refl
refused_line n (no_type a) = refl
refused_line n (type_unknown a b c d) = refl
refused_line n (short a b c d e f) = refl
refused_line n (long a b c d e f) = refl
refused_line n (odd a b c d e f g h) = refl
refused_line n (sum_differs a b c d e f g h i j k) = refl
refused_line n (length_differs a b c d e f g) = refl
refused_line n (size_differs a b c d e f g h) = refl

stops_among : {inside : ℕ → Bool} {ahead : List (List ℕ)} {line : List ℕ} {n : ℕ} {v : Verdict} → Stops inside ahead line n v → Among line_refusals v
stops_among (the_end a e) = tt
stops_among {line} {n} (no_record r b e) = refused_line n (subst (Stands line) e (stands line))
stops_among (first_outside before after p e i o) = refl
stops_among (count_differs k e d) = refl

pub lines_give : LinesGive
lines_give inside ahead line n v stops = stops_among stops

pub total : Total
total text first page marks = why_among s_records account line_refusals lines_give text (Window first page marks) (¬ Window first page marks) bad_window (within first (length page)) (reasons text first page marks)

pub total_by_table : TotalByTable
total_by_table owner rows text pool marks =
    let Bad = BadTable owner (length pool) (length marks) rows in why_among s_records account line_refusals lines_give text (¬ Bad) Bad bad_table (inside_of owner rows) (reasons_by_table owner rows text pool marks)

-- ---- the offender

-- of the answers of a line only its own refusal has the number 2
named_by : {text : List ℕ} {inside : ℕ → Bool} {ps : List Placement} {n m : ℕ} {v : Verdict} {r : Refusal} → Decided (account inside) (lines text) ps n v → v ≡ refused r m → number_of r ≡ 2
    → (place : ℕ) × Offends text m place × (r ≡ contains_invalid_characters (named place))
named_by {text} {inside} {ps} {n} {m} {v} {r} d = go d.stops refl
  where
    go : {k : ℕ} {v : Verdict} → Stops inside d.ahead d.line k v → k ≡ n → v ≡ refused r m → number_of r ≡ 2 → (place : ℕ) × Offends text m place × (r ≡ contains_invalid_characters (named place))
    go (the_end a e) k q two = let z : ◌≡◌ {A = ℕ} 0 1 = cc in absurd (omega arith)
    go {k} (no_record w b e) same q two =
        let is : w ≡ r = cc in
        let at-m : k ≡ m = cc in
        let (place, f, said) = (names_the_offender d.line r).0 (e ∙ ap wrong is, two) in
        (place, record { line = d.line; before = d.ahead; after = d.later; stands = d.whole; number = sym at-m ∙ same ∙ d.number; first = f }, said)
    go (first_outside before after p e i o) k q two = let is : outside_window p.address ≡ r = cc in absurd (omega (arith, ap number_of is))
    go (count_differs c e h) k q two = let is : count_mismatch c (data_records d.ahead) ≡ r = cc in absurd (omega (arith, ap number_of is))

pub load_names_the_offender : LoadNamesTheOffender
load_names_the_offender text first page marks r n e two = go (reasons text first page marks) e
  where
    go : {v : Verdict} → Why text first page marks v → v ≡ refused r n → (place : ℕ) × Offends text n place × (r ≡ contains_invalid_characters (named place))
    go (bad_one w) q = let is : bad_window ≡ r = cc in absurd (omega (arith, ap number_of is))
    go (no_end w all) q = let is : missing_end_of_file_record ≡ r = cc in absurd (omega (arith, ap number_of is))
    go (at_line k v w d) q = named_by d q two

-- ---- one line by itself

-- what is told says which answer it was, and what was stated
told_once : (r r' : Taken) (ps ps' : List Placement) → told_taken r ps ≡ told_taken r' ps' → (r ≡ r') × (ps ≡ ps')
told_once (On n) (On n') ps ps' e =
    let at : ℕ → List Placement → Standing Unit = λ k qs. record { state = tt; tally = record { records = k; start = none }; stated = qs } in
    let s : at n ps ≡ at n' ps' = cc in
    (ap (λ (st : Standing Unit). On st.tally.records) s, ap (λ (st : Standing Unit). st.stated) s)
told_once (On n) (Stop l) ps ps' e = let z : ◌≡◌ {A = ℕ} 0 1 = cc in absurd (omega arith)
told_once (Stop l) (On n) ps ps' e = let z : ◌≡◌ {A = ℕ} 0 1 = cc in absurd (omega arith)
told_once (Stop l) (Stop l') ps ps' e = let v : told_loading l ≡ told_loading l' = cc in (ap Stop (told_apart l l' v), cc)

-- placements are painted in one way
painted_once : (site : ℕ → Option ℕ) (ps : List Placement) (page marks p p' m m' : List ℕ) → Bytes marks
    → Painted site ps page marks p m → Painted site ps page marks p' m' → (p ≡ p') × (m ≡ m')
painted_once site ps page marks p p' m m' b x y =
    (x.page ∙ sym y.page, same_bits m m' (x.row.bytes b) (y.row.bytes b) (x.row.same_length ∙ sym y.row.same_length) (x.marks ∙ sym y.marks))

pub take_line_unique : TakeLineUnique
take_line_unique line number seen first page marks r r' p p' m m' b x y = go (closed seen first (length page) (length marks)) refl
  where
    go : (c : Bool) → closed seen first (length page) (length marks) ≡ c → (r ≡ r') × (p ≡ p') × (m ≡ m')
    go true e = let (a, u, v) = x.refused e in let (a', u', v') = y.refused e in (a ∙ sym a', u ∙ sym u', v ∙ sym v')
    go false e =
        let s = x.taken e in
        let t = y.taken e in
        let (same, ps) = told_once r r' s.stated t.stated (sym s.comes_to ∙ t.comes_to) in
        let (pages, rows) = painted_once _ s.stated page marks p p' m m' b s.paints (rw (sym ps) at t.paints) in
        (same, pages, rows)
