-- The exit status: what the answers come to, one by one, is the status of their row, and that is what the relation says.
-- Assumes nothing.
use Prim.Native.Nat.{ℕ, ◌^◌, ◌<◌}
use mathlib.Core.Path.{◌≡◌, refl, sym, ◌∙◌, ap}
use mathlib.Core.Logic.{◌⊎◌, inl, inr}
use mathlib.Core.Bool.{Bool, true, false}
use mathlib.Core.List.{List, [], ◌∷◌, ◌++◌}
use native.Mathlib.Omega.{arith}
use lib.Dec.{eqb, ltb}
use lib.ListN.{length}
use borrow.Author.Tests.{eqb-true, ltb-true, lt-ltb, le-ltb}
use Rattle.digits.specs.Common.{Every}
use Rattle.std.specs.Prelude.{if◌then◌else◌}
use Rattle.record.specs.Refusals.{Refusal}
use Rattle.record.specs.Line.{Said, says, wrong, judge}
use Rattle.record.specs.Meaning.{Meaning, meaning}
use Rattle.digits.proofs.Tests.{branch, and_true}
use Rattle.reader.specs.Aliases.{Reply}
use Rattle.reader.specs.declared.State.{State}
use Rattle.reader.specs.Lines.{lines}
use Rattle.reader.specs.Row.{Numbered, on, sayings, is_end, stops, through_stop, row}
use Rattle.reader.specs.Text.{new_state}
use Rattle.reader.specs.Along.{unread}
use Rattle.listing.specs.declared.Verdict.{Verdict}
use Rattle.listing.specs.Listing.{listing_options, answers}
use Rattle.listing.specs.Status.{complete, row_status, text_status, no_line, after_said, verdict_from, status_of, after_reply}
use Rattle.listing.specs.Claims.{IsRecord, a_record, ReachesEnd, ZeroMeans, ZeroOrOne, TwoMeans, VerdictByReply, StatusByVerdict}
use Rattle.listing.proofs.Turning.{spoken, left, UnderWay, first_way, Shown}

-- ---- the loop

-- what the answers so far come to, with those that are left, is what all come to
pub record Judged (input pool : List ℕ) (s : State) (verdict : Verdict) : Type 0 where
  pub whole : verdict_from verdict (left s input) ≡ verdict_from no_line (answers input)
  pub way : UnderWay input pool s

pub judged_first : (input pool : List ℕ) (s : State) → s ≡ new_state listing_options → length pool ≡ 256 → length input < 2 ^ 64 → Judged input pool s no_line
unfolding unread row
judged_first input pool s e p h = record { whole = ap (λ (x : State). verdict_from no_line (left x input)) e; way = first_way input pool s e p h }

module _ (input pool : List ℕ) (s : State) (verdict : Verdict) (j : Judged input pool s verdict) where
  pub judged_last : left s input ≡ [] → verdict ≡ verdict_from no_line (answers input)
  unfolding verdict_from
  judged_last e = sym (ap (verdict_from verdict) e) ∙ j.whole

  pub judged_more : (reply : Reply) (s' : State) (pool' : List ℕ) → Shown input s reply s' pool' → length pool' ≡ 256
      → (verdict' : Verdict) → verdict' ≡ after_reply verdict reply → Judged input pool' s' verdict'
  unfolding verdict_from
  judged_more reply s' pool' h z verdict' e =
      record {
        whole = ap (λ (v : Verdict). verdict_from v (left s' input)) (e ∙ h.judged verdict) ∙ sym (ap (verdict_from verdict) h.listed) ∙ j.whole;
        way = h.on_way pool' z;
      }

-- ---- the row

pub verdict_by_reply : VerdictByReply
verdict_by_reply line pool reply pool' a = (spoken pool a.size reply pool' line (judge line) refl a.tells a.holds).judged

faulty_stays : (row : List Numbered) (verdict : Verdict) → verdict.faulty ≡ true → status_of (verdict_from verdict row) ≡ 1
unfolding verdict_from
faulty_stays [] verdict e = rw e
faulty_stays (on n (says kind address payload) ∷ row) verdict e = faulty_stays row (after_said verdict (says kind address payload)) e
faulty_stays (on n (wrong r) ∷ row) verdict e = faulty_stays row (after_said verdict (wrong r)) refl

status_met : (row : List Numbered) (n : ℕ) (said : Said) (verdict : Verdict) → verdict.faulty ≡ false → status_of (verdict_from verdict (on n said ∷ row)) ≡ row_status (on n said ∷ row)
unfolding verdict_from row_status complete
status_met [] n (says kind address payload) verdict e = rw e
status_met [] n (wrong r) verdict e = refl
status_met (on m next ∷ row) n (says kind address payload) verdict e = status_met row m next (after_said verdict (says kind address payload)) e
status_met (on m next ∷ row) n (wrong r) verdict e = faulty_stays (on m next ∷ row) (after_said verdict (wrong r)) refl

pub status_by_verdict : StatusByVerdict
unfolding verdict_from row_status complete
status_by_verdict [] = refl
status_by_verdict (on n said ∷ row) = status_met row n said no_line refl

-- ---- the relation

never : {X : Type 0} → false ≡ true → X
never e = let z : ◌≡◌ {A = ℕ} 0 1 = cc in absurd (omega arith)

-- only type 01 is an end record
end_is_01 : (kind address : ℕ) (payload : List ℕ) → is_end (meaning kind address payload) ≡ true → kind ≡ 1
unfolding is_end meaning
end_is_01 kind address payload =
    branch Ends01 (eqb kind 0) _ _ (λ _. never)
    (λ _. branch Ends01 (eqb kind 1) _ _ (λ t _. eqb-true kind 1 t)
    (λ _. branch Ends01 (eqb kind 2) _ _ (λ _. never)
    (λ _. branch Ends01 (eqb kind 3) _ _ (λ _. never)
    (λ _. branch Ends01 (eqb kind 4) _ _ (λ _. never) (λ _. never)))))
  where
    Ends01 : Meaning → Type 0
    Ends01 m = is_end m ≡ true → kind ≡ 1

refused_not_complete : (n : ℕ) (r : Refusal) (row : List Numbered) → complete (on n (wrong r) ∷ row) ≡ false
unfolding complete
refused_not_complete n r [] = refl
refused_not_complete n r (x ∷ row) = refl

module _ (n kind address : ℕ) (payload : List ℕ) where
  -- a record that is not an end record leaves it to the others
  complete_on : (row : List Numbered) → is_end (meaning kind address payload) ≡ false → complete (on n (says kind address payload) ∷ row) ≡ complete row
  unfolding complete
  complete_on [] e = e
  complete_on (x ∷ row) e = refl

  -- the row that is read from a record on
  read_on : (xs : List Numbered) → through_stop listing_options (on n (says kind address payload) ∷ xs)
      ≡ on n (says kind address payload) ∷ (if is_end (meaning kind address payload) then [] else through_stop listing_options xs)
  unfolding through_stop stops
  read_on xs = ap (λ (b : Bool). on n (says kind address payload) ∷ (if b then [] else through_stop listing_options xs)) (and_true (is_end (meaning kind address payload)))

  complete_here : (xs : List Numbered) → is_end (meaning kind address payload) ≡ true → complete (through_stop listing_options (on n (says kind address payload) ∷ xs)) ≡ true
  unfolding complete
  complete_here xs e = rw (read_on xs, e) e

  complete_later : (xs : List Numbered) → is_end (meaning kind address payload) ≡ false
      → complete (through_stop listing_options (on n (says kind address payload) ∷ xs)) ≡ complete (through_stop listing_options xs)
  complete_later xs e = rw (read_on xs, e) (complete_on (through_stop listing_options xs) e)

  one_more : (xs : List Numbered) → ReachesEnd xs → ReachesEnd (on n (says kind address payload) ∷ xs)
  one_more xs r =
      record {
        before = on n (says kind address payload) ∷ r.before;
        n = r.n;
        address = r.address;
        payload = r.payload;
        rest = r.rest;
        cut = ap (λ (l : List Numbered). on n (says kind address payload) ∷ l) r.cut;
        records = (a_record, r.records);
      }

reaches : (xs : List Numbered) → complete (through_stop listing_options xs) ≡ true → ReachesEnd xs
unfolding complete through_stop stops
reaches [] e = never e
reaches (on n (wrong r) ∷ xs) e = never (sym (refused_not_complete n r (through_stop listing_options xs)) ∙ e)
reaches (on n (says kind address payload) ∷ xs) e = go (λ t. reaches xs (sym (complete_later n kind address payload xs t) ∙ e)) (is_end (meaning kind address payload)) refl
  where
    go : (is_end (meaning kind address payload) ≡ false → ReachesEnd xs) → (b : Bool) → is_end (meaning kind address payload) ≡ b → ReachesEnd (on n (says kind address payload) ∷ xs)
    go more true t =
        record {
          before = [];
          n = n;
          address = address;
          payload = payload;
          rest = xs;
          cut = ap (λ (k : ℕ). on n (says k address payload) ∷ xs) (end_is_01 kind address payload t);
          records = tt;
        }
    go more false t = one_more n kind address payload xs (more t)

-- a refusal is not a record
abbrev SaysOne : Numbered → Type 0
SaysOne (on n (says kind address payload)) = Unit {0}
SaysOne (on n (wrong e)) = ⊥

says_one : {x : Numbered} → IsRecord x → SaysOne x
says_one a_record = tt

reached : (before : List Numbered) → Every IsRecord before → (n address : ℕ) (payload : List ℕ) (rest : List Numbered)
    → complete (through_stop listing_options (before ++ (on n (says 1 address payload) ∷ rest))) ≡ true
unfolding is_end meaning
reached [] records n address payload rest = complete_here n 1 address payload rest refl
reached (on m (wrong e) ∷ before) (bad, _) n address payload rest = absurd (says_one bad)
reached (on m (says kind a p) ∷ before) (a_record, records) n address payload rest =
    go (before ++ (on n (says 1 address payload) ∷ rest)) (reached before records n address payload rest) (is_end (meaning kind a p)) refl
  where
    go : (xs : List Numbered) → complete (through_stop listing_options xs) ≡ true → (b : Bool) → is_end (meaning kind a p) ≡ b
        → complete (through_stop listing_options (on m (says kind a p) ∷ xs)) ≡ true
    go xs e true t = complete_here m kind a p xs t
    go xs e false t = complete_later m kind a p xs t ∙ e

-- 0 is the status of a complete row
zero_complete : (answers : List Numbered) → row_status answers ≡ 0 → complete answers ≡ true
unfolding row_status
zero_complete answers = go (complete answers)
  where
    go : (b : Bool) → ◌≡◌ {A = ℕ} (if b then 0 else 1) 0 → b ≡ true
    go true e = refl
    go false e = absurd (omega arith)

complete_zero : (answers : List Numbered) → complete answers ≡ true → row_status answers ≡ 0
unfolding row_status
complete_zero answers e = rw e

pub zero_or_one : ZeroOrOne
unfolding row_status
zero_or_one row = branch (λ (k : ℕ). (k ≡ 0) ⊎ (k ≡ 1)) (complete row) 0 1 (λ _. inl refl) (λ _. inr refl)

pub zero_means : ZeroMeans
unfolding row
zero_means input = (
  λ e. reaches (sayings 1 (lines input)) (zero_complete (answers input) e),
  λ r. complete_zero (answers input) (ap (λ (l : List Numbered). complete (through_stop listing_options l)) r.cut ∙ reached r.before r.records r.n r.address r.payload r.rest),
)

pub two_means : TwoMeans
unfolding text_status
two_means input = ((λ e. over (ltb 65536 (length input)) refl e, λ h. rw (lt-ltb 65536 (length input) h)), λ h. rw (le-ltb 65536 (length input) h))
  where
    below : (k : ℕ) → (k ≡ 0) ⊎ (k ≡ 1) → k ≡ 2 → ⊥
    below k (inl a) e = omega arith
    below k (inr a) e = omega arith

    over : (b : Bool) → ltb 65536 (length input) ≡ b → (if b then 2 else row_status (answers input)) ≡ 2 → 65536 < length input
    over true t e = ltb-true 65536 (length input) t
    over false t e = absurd (below (row_status (answers input)) (zero_or_one (answers input)) e)
