-- The claims of joining, of Intel's records in one window: what `steps` proves for any source and any room, of the line that resets and of packed
-- marks.
-- Assumes nothing.
use Rattle.std.proofs.Common.{◌≡◌, ℕ, suc, ◌+◌, ◌<◌, max, Bool, true, false, ◌⊎◌, List, [], ◌∷◌, ◌++◌, map, length, replicate, sym, refl, ap, ◌∙◌, ap₂, subst₂, inl, inr, arith}
use mathlib.Core.Option.{none, some}
use mathlib.Core.List.Memᴰ
use mathlib.Core.List.{Memᴰ}
use lib.ListN.{length-replicate}
use Rattle.digits.specs.Common.{Every}
use Rattle.digits.specs.Digits.{number_after}
use Rattle.record.specs.Line.{Said, says, wrong, judge}
use Rattle.record.specs.Meaning.{Meaning, data_at, end_of_file, extended_segment, start_segment, extended_linear, start_linear, meaning}
use Rattle.reader.specs.Lines.{LF, lines}
use Rattle.marks.specs.Marks.{row_length, mark_at, flags}
use Rattle.marks.proofs.Below.{split}
use Rattle.marks.proofs.Rows.{flags_length, zeros_none, zeros_bytes}
use Rattle.marks.proofs.Claims.{same_row}
use Rattle.steps.specs.Steps.{Placement, Start, cs_with_ip, linear_address, Action, places, starts, counts, finishes, fails, Step, step, Tally, nothing_yet, accepted, decision, verdict, stated}
use Rattle.steps.specs.Sites as sites
use Rattle.steps.specs.Sites.{Loaded, Room, Stated, OwedAt}
use Rattle.steps.specs.Packed.{load_packed}
use Rattle.steps.specs.Join as join
use Rattle.steps.specs.Join.{Ends, NoneEnds, HasEnd, state_after, together, Agreeing, NoStart}
use Rattle.steps.proofs.Sites as sites-proved
use Rattle.steps.proofs.Sites.{judged}
use Rattle.steps.specs.Source as source
use Rattle.steps.proofs.Cut as general
use Rattle.steps.proofs.Joined as general-joined
use Rattle.window.specs.Window.{within, unfit, one_window}
use Rattle.window.specs.Claims.{Window}
use Rattle.window.proofs.Tests.{no_window}
use Rattle.window.proofs.Storing.{shows}
use Rattle.intel.specs.Placing.{Base, base_behind, placed, does, act, intel, intel_by, steps_of, placements}
use Rattle.window.specs.Load.{room_of, stopping_by_window, load_window}
use Rattle.loader.specs.Load.{load}
use Rattle.intel.specs.Lines.{said_record, starts as line-starts, start_on}
use Rattle.loader.specs.Joined.{before_end, reset, joined, MayBeJoined, EndRecord, BeforeEndMadeSo, BeforeEndOnlySo, AcceptedHasEnd, AnswerByLengths, JoinedAccepted, JoinedAnswered, JoinedOneAnswer, JoinedWithOneStart, JoinedStates, Upon, OneUponAnother, Seen, from_B, from_A, as_before, WhatAPanelSees, EitherGrouping, NothingStated, end_record, EndAlone, Examples}
use Rattle.window.proofs.Loads.{load_answer, fit_stopping, plain, as_plain, plain_sizes, row, mark_of, fit_window}
use Rattle.loader.proofs.Demand3.{what_is_stored, sizes_kept}

-- ---- what ends a text

only_one : (x a : Action) → Memᴰ x (a ∷ []) → x ≡ a
only_one x a m = go (Memᴰ.cases_cons m)
  where
    go : (x ≡ a) ⊎ Memᴰ x [] → x ≡ a
    go (inl e) = e
    go (inr n) = absurd (Memᴰ.not-nil n)

-- only an end record does, and it does nothing else
ends_so : (base : Base) (m : Meaning) → Memᴰ finishes (does base m) → m ≡ end_of_file
unfolding does
ends_so base (data_at offset bytes) e = let q = only_one finishes (places (placed base offset 0 bytes)) e in let z : ◌≡◌ {A = ℕ} 0 1 = cc in absurd (omega arith)
ends_so base end_of_file e = refl
ends_so base (extended_segment x) e = absurd (Memᴰ.not-nil e)
ends_so base (start_segment cs ip) e = let q = only_one finishes (starts (cs_with_ip cs ip)) e in let z : ◌≡◌ {A = ℕ} 0 1 = cc in absurd (omega arith)
ends_so base (extended_linear x) e = absurd (Memᴰ.not-nil e)
ends_so base (start_linear x) e = let q = only_one finishes (starts (linear_address x)) e in let z : ◌≡◌ {A = ℕ} 0 1 = cc in absurd (omega arith)

said_end : (base : Base) (said : Said) → Memᴰ finishes (act base said) → said_record said ≡ some end_of_file
unfolding act said_record
said_end base (says kind address payload) e = ap (λ (m : Meaning). some m) (ends_so base (meaning kind address payload) e)
said_end base (wrong r) e = let q = only_one finishes (fails r) e in let z : ◌≡◌ {A = ℕ} 0 1 = cc in absurd (omega arith)

end_said : (base : Base) (said : Said) → said_record said ≡ some end_of_file → act base said ≡ finishes ∷ []
unfolding act said_record does
end_said base (says kind address payload) e = let m : meaning kind address payload ≡ end_of_file = cc in rw m
end_said base (wrong r) e = let z : ◌≡◌ {A = ℕ} 0 1 = cc in absurd (omega arith)

-- and no line states a count
none_counts : (base : Base) (m : Meaning) (c : ℕ) → ¬ Memᴰ (counts c) (does base m)
unfolding does
none_counts base (data_at offset bytes) c e = let q = only_one (counts c) (places (placed base offset 0 bytes)) e in let z : ◌≡◌ {A = ℕ} 0 1 = cc in omega arith
none_counts base end_of_file c e = let q = only_one (counts c) finishes e in let z : ◌≡◌ {A = ℕ} 0 1 = cc in omega arith
none_counts base (extended_segment x) c e = Memᴰ.not-nil e
none_counts base (start_segment cs ip) c e = let q = only_one (counts c) (starts (cs_with_ip cs ip)) e in let z : ◌≡◌ {A = ℕ} 0 1 = cc in omega arith
none_counts base (extended_linear x) c e = Memᴰ.not-nil e
none_counts base (start_linear x) c e = let q = only_one (counts c) (starts (linear_address x)) e in let z : ◌≡◌ {A = ℕ} 0 1 = cc in omega arith

no_count : (base : Base) (said : Said) (c : ℕ) → ¬ Memᴰ (counts c) (act base said)
unfolding act
no_count base (says kind address payload) c e = none_counts base (meaning kind address payload) c e
no_count base (wrong r) c e = let q = only_one (counts c) (fails r) e in let z : ◌≡◌ {A = ℕ} 0 1 = cc in omega arith

pub may_be_joined : MayBeJoined
unfolding intel_by act does base_behind judge meaning number_after lines
may_be_joined =
    record {
      has_a_byte = λ e. let z : ◌≡◌ {A = ℕ} 0 1 = cc in omega arith;
      one_line = λ text. refl;
      silent = λ base. refl;
      back = λ base. refl;
      plain_end = λ base line e. end_said base (judge line) (said_end base (judge line) e);
      no_count = λ base line. no_count base (judge line);
    }

-- ---- lines that are end records, whatever the base

empty_is_none : ¬ EndRecord []
unfolding judge said_record
empty_is_none e = let z : ◌≡◌ {A = ℕ} 0 1 = cc in omega arith

is_record : (base : Base) (line : List ℕ) → Ends intel base line → EndRecord line
unfolding intel_by
is_record base [] e = absurd e
is_record base (c ∷ line) e = said_end base (judge (c ∷ line)) e

record_is : (base : Base) (line : List ℕ) → EndRecord line → Ends intel base line
unfolding intel_by
record_is base [] e = absurd (empty_is_none e)
record_is base (c ∷ line) e = rw (end_said base (judge (c ∷ line)) e) (Memᴰ.head refl)

to_records : (base : Base) (ls : List (List ℕ)) → NoneEnds intel base ls → Every (λ (line : List ℕ). ¬ EndRecord line) ls
to_records base [] h = tt
to_records base ([] ∷ ls) h = (empty_is_none, to_records base ls h)
to_records base ((c ∷ l) ∷ ls) (x, h) = (λ e. x (record_is base (c ∷ l) e), to_records (intel.next base (c ∷ l)) ls h)

from_records : (base : Base) (ls : List (List ℕ)) → Every (λ (line : List ℕ). ¬ EndRecord line) ls → NoneEnds intel base ls
from_records base [] h = tt
from_records base ([] ∷ ls) (x, h) = from_records base ls h
from_records base ((c ∷ l) ∷ ls) (x, h) = (λ e. x (is_record base (c ∷ l) e), from_records (intel.next base (c ∷ l)) ls h)

-- where a list has an element
parted : (x : List ℕ) (xs : List (List ℕ)) → Memᴰ x xs → (before : List (List ℕ)) × (later : List (List ℕ)) × (xs ≡ before ++ (x ∷ later))
parted x [] m = absurd (Memᴰ.not-nil m)
parted x (y ∷ xs) m = go (Memᴰ.cases_cons m) (parted x xs)
  where
    go : (x ≡ y) ⊎ Memᴰ x xs → (Memᴰ x xs → (before : List (List ℕ)) × (later : List (List ℕ)) × (xs ≡ before ++ (x ∷ later)))
        → (before : List (List ℕ)) × (later : List (List ℕ)) × (y ∷ xs ≡ before ++ (x ∷ later))
    go (inl e) h = ([], xs, ap (λ (z : List ℕ). z ∷ xs) (sym e))
    go (inr n) h = let (before, later, e) = h n in (y ∷ before, later, ap (λ (l : List (List ℕ)). y ∷ l) e)

pub before_end_made_so : BeforeEndMadeSo
before_end_made_so text line m e =
    let (before, later, whole) = parted line (lines text) m in
    let h : HasEnd intel text = record { before = before; line = line; later = later; whole = whole; is_end = record_is (state_after intel intel.beginning before) line e } in
    let b = general.before_end_made_so _ intel text h in
    record {
      rest = b.rest;
      whole = b.whole;
      whole_lines = b.whole_lines;
      none_before = to_records intel.beginning (lines (before_end text)) b.none_ends;
      line = b.line;
      later = b.later;
      next = b.next;
      is_end = is_record (state_after intel intel.beginning (lines (before_end text))) b.line b.is_end;
    }

pub before_end_only_so : BeforeEndOnlySo
before_end_only_so text before b =
    general.before_end_only_so _ intel text before (record {
      rest = b.rest;
      whole = b.whole;
      whole_lines = b.whole_lines;
      none_ends = from_records intel.beginning (lines before) b.none_before;
      line = b.line;
      later = b.later;
      next = b.next;
      is_end = record_is (state_after intel intel.beginning (lines before)) b.line b.is_end;
    })

-- ---- answers

-- an accepted text has an end
has_end : (text : List ℕ) (first : ℕ) (page marks : List ℕ) (k : Tally) → (load text first page marks).answer ≡ accepted k → HasEnd intel text
has_end text first page marks k e =
    general-joined.accepted_has_end _ intel (room_of first page marks) text page (flags (length page) marks) k (sym (as_plain intel text first page marks).answers ∙ e)

pub accepted_has_end : AcceptedHasEnd
accepted_has_end text first page marks k e =
    let h = has_end text first page marks k e in
    (h.line, rw h.whole (Memᴰ.append_right h.before (Memᴰ.head refl)), is_record (state_after intel intel.beginning h.before) h.line h.is_end)

pub answer_by_lengths : AnswerByLengths
unfolding load_window load_packed
answer_by_lengths text first page marks page' marks' lp lm =
    plain_answer (room_of first page marks) page (flags (length page) marks)
    ∙ ap₂ (λ (p m : ℕ). judged (one_window first p m) (source.steps_of intel text)) lp lm
    ∙ sym (plain_answer (room_of first page' marks') page' (flags (length page') marks'))
  where
    plain_answer : (room : Room) (page marks : List ℕ) → (sites.load intel room text page marks).answer ≡ judged room (source.steps_of intel text)
    plain_answer room page marks = sites-proved.load_answer intel room text page marks

pub joined_accepted : JoinedAccepted
unfolding load_window load_packed join.joined
joined_accepted first a b page marks ta tj =
    general-joined.joined_accepted _ intel reset may_be_joined (room_of first page marks) a b page (flags (length page) marks) ta tj

pub joined_answered : JoinedAnswered
unfolding load_window load_packed join.joined
joined_answered first a b page marks ta e =
    rw (← general.lines_ahead_counts _ intel a (has_end a first page marks ta e))
    (general-joined.joined_answered _ intel reset may_be_joined (room_of first page marks) a b page (flags (length page) marks) ta e)

pub joined_one_answer : JoinedOneAnswer
unfolding load_window load_packed join.joined
joined_one_answer first a b page marks ta v e w =
    general-joined.joined_one_answer _ intel reset may_be_joined (room_of first page marks) a b page (flags (length page) marks) ta v e
    (rw (general.lines_ahead_counts _ intel a (has_end a first page marks ta e)) w)

-- lines that state no start have steps that state none
no_start_steps : (n : ℕ) (acts : List Action) (s : List Step) → ((x : Start) → ¬ Memᴰ (starts x) acts) → NoStart s → NoStart (map (step n) acts ++ s)
no_start_steps n [] s h k = k
no_start_steps n (a ∷ acts) s h k = (λ m x e. h x (Memᴰ.head (cc)), no_start_steps n acts s (λ x m. h x (Memᴰ.tail m)) k)

none_starts : (base : Base) (m : Meaning) → line-starts (some m) ≡ none → (x : Start) → ¬ Memᴰ (starts x) (does base m)
unfolding does line-starts
none_starts base (data_at offset bytes) q x e = let p = only_one (starts x) (places (placed base offset 0 bytes)) e in let z : ◌≡◌ {A = ℕ} 0 1 = cc in omega arith
none_starts base end_of_file q x e = let p = only_one (starts x) finishes e in let z : ◌≡◌ {A = ℕ} 0 1 = cc in omega arith
none_starts base (extended_segment n) q x e = Memᴰ.not-nil e
none_starts base (start_segment cs ip) q x e = let z : ◌≡◌ {A = ℕ} 0 1 = cc in omega arith
none_starts base (extended_linear n) q x e = Memᴰ.not-nil e
none_starts base (start_linear n) q x e = let z : ◌≡◌ {A = ℕ} 0 1 = cc in omega arith

said_starts : (base : Base) (said : Said) → line-starts (said_record said) ≡ none → (x : Start) → ¬ Memᴰ (starts x) (act base said)
unfolding act said_record
said_starts base (says kind address payload) q x e = none_starts base (meaning kind address payload) q x e
said_starts base (wrong r) q x e = let p = only_one (starts x) (fails r) e in let z : ◌≡◌ {A = ℕ} 0 1 = cc in omega arith

no_start_lines : (base : Base) (n : ℕ) (ls : List (List ℕ)) → Every (λ (line : List ℕ). start_on line ≡ none) ls → NoStart (source.steps intel base n ls)
unfolding source.steps intel_by
no_start_lines base n [] h = tt
no_start_lines base n ([] ∷ ls) (e, h) = no_start_lines base (suc n) ls h
no_start_lines base n ((c ∷ l) ∷ ls) (e, h) = no_start_steps n (act base (judge (c ∷ l))) _ (said_starts base (judge (c ∷ l)) e) (no_start_lines (intel.next base (c ∷ l)) (suc n) ls h)

from_beginning : (b : List ℕ) → Every (λ (line : List ℕ). start_on line ≡ none) (lines b) → NoStart (source.steps_of intel b)
unfolding source.steps_of
from_beginning b h = no_start_lines intel.beginning 1 (lines b) h

pub joined_with_one_start : JoinedWithOneStart
unfolding load_window load_packed join.joined
joined_with_one_start first a b page marks ta e one =
    rw (← general.lines_ahead_counts _ intel a (has_end a first page marks ta e))
    (general-joined.joined_with_one_start _ intel reset may_be_joined (room_of first page marks) a b page (flags (length page) marks) ta e (as_steps one))
  where
    as_steps : (ta.start ≡ none) ⊎ Every (λ (line : List ℕ). start_on line ≡ none) (lines b) → (ta.start ≡ none) ⊎ NoStart (source.steps_of intel b)
    as_steps (inl q) = inl q
    as_steps (inr h) = inr (from_beginning b h)

pub joined_states : JoinedStates
unfolding load_window load_packed join.joined
joined_states first a b page marks ta e =
    general-joined.joined_states _ intel reset may_be_joined (room_of first page marks) a b page (flags (length page) marks) ta e

pub either_grouping : EitherGrouping
unfolding join.joined
either_grouping a b c first page marks ta first' page' marks' tb ea eb =
    general-joined.either_grouping _ intel reset may_be_joined a b c (has_end a first page marks ta ea) (has_end b first' page' marks' tb eb)

-- ---- page and marks

module _ (first : ℕ) (a b page ma mb mj : List ℕ) (ta tb : Tally) (lm : length mj ≡ length ma)
    (ea : (load a first page ma).answer ≡ accepted ta) (eb : (load b first (load a first page ma).page mb).answer ≡ accepted tb) (agree : Agreeing ta.start tb.start) where
  abbrev la : Loaded
  la = load a first page ma

  abbrev lb : Loaded
  lb = load b first (load a first page ma).page mb

  abbrev lj : Loaded
  lj = load (joined a b) first page mj

  -- all three have one length of page and one of marks
  pages_same : length la.page ≡ length page
  pages_same = (sizes_kept a first page ma).0

  rows_same : length mb ≡ length mj
  rows_same = (fit_window intel b first la.page mb tb eb).row ∙ ap row_length pages_same ∙ sym (fit_window intel a first page ma ta ea).row ∙ sym lm

  accepted_both : lj.answer ≡ accepted (together ta tb)
  accepted_both =
      (joined_accepted first a b page mj ta (together ta tb) (answer_by_lengths a first page mj page ma refl lm ∙ ea)
      ).1 (tb, answer_by_lengths b first page mj la.page mb (sym pages_same) (sym rows_same) ∙ eb, agree, refl)

  -- the loads with their marks unpacked, in one room
  plain_a : sites.load intel (room_of first page mj) a page (flags (length page) ma) ≡ plain intel a first page ma
  plain_a = ap (λ (n : ℕ). sites.load intel (one_window first (length page) n) a page (flags (length page) ma)) lm

  plain_page : (sites.load intel (room_of first page mj) a page (flags (length page) ma)).page ≡ la.page
  plain_page = ap (λ (l : Loaded). l.page) plain_a ∙ sym (as_plain intel a first page ma).pages

  plain_b : sites.load intel (room_of first page mj) b (sites.load intel (room_of first page mj) a page (flags (length page) ma)).page (flags (length page) mb)
      ≡ plain intel b first la.page mb
  plain_b =
      ap (λ (p : List ℕ). sites.load intel (room_of first page mj) b p (flags (length page) mb)) plain_page
      ∙ ap₂ (λ (m n : ℕ). sites.load intel (one_window first m n) b la.page (flags m mb)) (sym pages_same) (sym rows_same)

  upon : join.Upon (room_of first page mj).site (length (flags (length page) mj)) (plain intel a first page ma) (plain intel b first la.page mb) (plain intel (joined a b) first page mj)
  unfolding join.joined
  upon =
      subst₂ (λ (x y : Loaded). join.Upon (room_of first page mj).site (length (flags (length page) mj)) x y (plain intel (joined a b) first page mj)) plain_a plain_b
      (general-joined.one_upon_another _ intel reset may_be_joined (room_of first page mj) a b page (flags (length page) ma) (flags (length page) mb) (flags (length page) mj) ta tb
      (flags_length (length page) ma ∙ sym (flags_length (length page) mj)) (flags_length (length page) mb ∙ sym (flags_length (length page) mj))
      (ap (λ (l : Loaded). l.answer) plain_a ∙ sym (as_plain intel a first page ma).answers ∙ ea)
      (ap (λ (l : Loaded). l.answer) plain_b ∙ sym (as_plain intel b first la.page mb).answers ∙ eb) agree)

  shown : (p : ℕ) → p < length page → (room_of first page mj).site p ≡ some (first + p)
  unfolding one_window
  shown p h = shows first (length page) p h

  union : (p : ℕ) → mark_at lj.marks p ≡ max (mark_at la.marks p) (mark_at lb.marks p)
  union p = split (length page) p
      (λ beyond. rw (
        (row intel (joined a b) first page mj (together ta tb) accepted_both).unused p (omega (arith, (plain_sizes intel (joined a b) first page mj).1)),
        (row intel a first page ma ta ea).unused p (omega (arith, (plain_sizes intel a first page ma).1)),
        (row intel b first la.page mb tb eb).unused p (omega (arith, (plain_sizes intel b first la.page mb).1, pages_same)),
      ))
      (λ below.
      mark_of intel (joined a b) first page mj (together ta tb) accepted_both p below
      ∙ upon.marks p (omega (arith, flags_length (length page) mj)) (first + p, shown p below)
      ∙ sym (ap₂ max (mark_of intel a first page ma ta ea p below) (mark_of intel b first la.page mb tb eb p (omega (arith, pages_same)))))

  upon_another : (lj.answer ≡ accepted (together ta tb)) × Upon la lb lj
  upon_another =
      (accepted_both, record { pages = (as_plain intel (joined a b) first page mj).pages ∙ upon.pages ∙ sym (as_plain intel b first la.page mb).pages; marks = union })

pub one_upon_another : OneUponAnother
one_upon_another first a b page ma mb mj ta tb lm ea eb agree = upon_another first a b page ma mb mj ta tb lm ea eb agree

-- ---- what a panel sees

see : {ps qs : List Placement} {address old mark-a mark-b byte-a byte : ℕ} → OwedAt ps address old mark-a byte-a → OwedAt qs address byte-a mark-b byte → Seen ps qs address old byte
see {ps} {qs} {address} {old} {mark-a} {mark-b} {byte-a} {byte} x y = by x.one_or_zero y.one_or_zero
  where
    not_stated : {rs : List Placement} {o m c : ℕ} → OwedAt rs address o m c → m ≡ 0 → ¬ Stated address rs
    not_stated w e s = let one = w.marked_iff_stated.1 s in omega arith

    by : (mark-a ≡ 1) ⊎ (mark-a ≡ 0) → (mark-b ≡ 1) ⊎ (mark-b ≡ 0) → Seen ps qs address old byte
    by p (inl q) = from_B byte (y.marked_holds q)
    by (inl p) (inr q) = rw (y.unmarked_keeps q) (from_A byte-a (not_stated y q) (x.marked_holds p))
    by (inr p) (inr q) = rw (y.unmarked_keeps q, x.unmarked_keeps p) (as_before (not_stated y q) (not_stated x p))

pub what_a_panel_sees : WhatAPanelSees
what_a_panel_sees first a b page ma mb mj ta tb lm ea eb i h =
    let pa = (load a first page ma).page in
    let seen = see (what_is_stored a first page ma ta ea i h) (what_is_stored b first pa mb tb eb i (omega (arith, (sizes_kept a first page ma).0))) in
    (seen, λ agree. rw (one_upon_another first a b page ma mb mj ta tb lm ea eb agree).1.pages seen)

-- ---- nothing stated

pub nothing_stated : NothingStated
unfolding one_window
nothing_stated text first page marks k e s =
    let p = as_plain intel text first page marks in
    let l = load text first page marks in
    let (kept, zero) = general-joined.nothing_stated _ intel (room_of first page marks) text page (flags (length page) marks) k (sym p.answers ∙ e) s in
    let size = length-replicate {A = ℕ} (length marks) 0 in (
      p.pages ∙ kept,
      same_row l.marks (replicate (length marks) 0) (row intel text first page marks k e).bytes (zeros_bytes (length marks)) ((sizes_kept text first page marks).1 ∙ sym size)
          (λ i h. split (length page) i
          (λ beyond. (row intel text first page marks k e).unused i (omega (arith, (plain_sizes intel text first page marks).1)))
          (λ below. mark_of intel text first page marks k e i below
          ∙ zero i (omega (arith, flags_length (length page) marks)) (first + i, shows first (length page) i below))
          ∙ sym (zeros_none (length marks) i)),
    )

-- a text that is accepted with no data record wherever the window is fit, and states nothing
alone : (text : List ℕ) → ((inside : ℕ → Bool) → verdict (decision inside nothing_yet (steps_of text)) ≡ accepted (record { records = 0; start = none })) → placements text ≡ []
    → (first : ℕ) (page marks : List ℕ) → Window first page marks
    → load text first page marks ≡ record { answer = accepted (record { records = 0; start = none }); page = page; marks = replicate (length marks) 0 }
unfolding sites.stopping_by stopping_by_window
alone text d s first page marks w = go (unfit first (length page) (length marks)) refl
  where
    go : (b : Bool) → unfit first (length page) (length marks) ≡ b → load text first page marks ≡ record { answer = accepted (record { records = 0; start = none }); page = page; marks = replicate (length marks) 0 }
    go true e = absurd (no_window first page marks e w)
    go false e =
        let answer = load_answer intel text first page marks ∙ ap verdict (fit_stopping first page marks (steps_of text) e) ∙ d (within first (length page)) in
        let (p, m) = nothing_stated text first page marks (record { records = 0; start = none }) answer s in
        λ i. record { answer = answer i; page = p i; marks = m i }

pub end_alone : EndAlone
unfolding source.steps_of intel_by judge meaning number_after decision verdict stated
end_alone first page marks w = (alone end_record (λ inside. refl) refl first page marks w, alone (end_record ++ (LF ∷ [])) (λ inside. refl) refl first page marks w)

-- ---- examples

pub examples : Examples
unfolding load_window source.steps_of stated intel_by judge meaning number_after join.joined
examples = record { ends_by_the_judge = refl; text_is = refl; one_load = refl; the_first = refl; the_second = refl; later_line = refl; other_start = refl; one_start = refl; no_line = refl; with_the_line = refl; without_it = refl; in_a_segment = refl; under_type_04 = refl }
