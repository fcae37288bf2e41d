-- The listing's length: every answer's entry is at most three times as long as its line with an LF, and there are no more answers than bytes.
-- Assumes nothing.
use Prim.Native.Nat.{ℕ, suc, ◌+◌, ◌*◌, ◌≤◌}
use mathlib.Core.Path.{◌≡◌, refl, ap}
use mathlib.Core.Logic.{◌≢◌, ◌⊎◌, inl, inr, ⊎_elim}
use mathlib.Core.List.{List, [], ◌∷◌, ◌++◌}
use native.Mathlib.Omega.{arith}
use lib.ListN.{length, length-append}
use Rattle.record.specs.Line.{Said, judge}
use Rattle.digits.proofs.Tests.{branch}
use Rattle.record.proofs.Standing.{stands}
use Rattle.reader.specs.declared.ReaderOptions.{ReaderOptions}
use Rattle.reader.specs.Lines.{lines, Ended, with_CRLF, with_LF, with_text, Cut, Joins, nothing, more}
use Rattle.reader.specs.Row.{Numbered, on, sayings, stops, through_stop, row}
use Rattle.reader.proofs.Texts.{lines_join, sayings_few}
use Rattle.listing.specs.Listing.{entry, ended, entries, listing_options, answers}
use Rattle.listing.proofs.Entry.{entry_most}

-- ---- the lines, one behind the other

-- a line that has no end is the last
end_or_last : {line end rest' : List ℕ} → Ended line end rest' → (1 ≤ length end) ⊎ (rest' ≡ [])
end_or_last with_CRLF = inl (omega arith)
end_or_last (with_LF h) = inl (omega arith)
end_or_last with_text = inr refl

cut_length : {t line rest' : List ℕ} (c : Cut t line rest') → length t ≡ length line + length c.end + length rest'
cut_length {t} {line} {rest'} c = omega (arith, ap length c.whole, length-append line (c.end ++ rest'), length-append c.end rest')

joins : (t : List ℕ) → Joins t (lines t)
joins t = (lines_join t (lines t)).1 refl

no_more : {t : List ℕ} {ls : List (List ℕ)} → Joins t ls → t ≡ [] → ls ≡ []
no_more nothing e = refl
no_more (more h c j) e = absurd (h e)

-- what one line adds, beside the lines behind it: the text behind a line without an end is empty
pub lines_most : {t : List ℕ} {ls : List (List ℕ)} → Joins t ls → length ls ≤ length t
lines_most nothing = omega arith
lines_most (more {text = t} {line = line} {rest = rest'} {ls = ls} h c j) =
    let n = cut_length c in
    let i = lines_most j in
    ⊎_elim (λ l. omega arith) (λ l. omega (arith, ap length (no_more j l), some t h)) (end_or_last c.ended)
  where
    some : (t : List ℕ) → t ≢ [] → 1 ≤ length t
    some [] h = absurd (h refl)
    some (b ∷ t) h = omega arith

entries_cons : (n : ℕ) (said : Said) (more' : List Numbered) → length (entries (on n said ∷ more')) ≡ length (ended (entry said)) + length (entries more')
unfolding entries
entries_cons n said more' = length-append (ended (entry said)) (entries more')

-- the first line's part, whatever it is
line_most : (n : ℕ) (line : List ℕ) (ls : List (List ℕ)) → length (entries (sayings n (line ∷ ls))) ≤ 3 * length line + 3 + length (entries (sayings (suc n) ls))
unfolding sayings
line_most n [] ls = omega arith
line_most n (c ∷ line) ls =
    omega (arith, entries_cons n (judge (c ∷ line)) (sayings (suc n) ls), entry_most (c ∷ line) (judge (c ∷ line)) (stands (c ∷ line)) (omega arith))

entries_most : {t : List ℕ} {ls : List (List ℕ)} (n : ℕ) → Joins t ls → length (entries (sayings n ls)) ≤ 3 * length t + 3
unfolding sayings entries
entries_most n nothing = omega arith
entries_most n (more {text = t} {line = line} {rest = rest'} {ls = ls} h c j) =
    let k = cut_length c in
    let i = entries_most (suc n) j in
    let m = line_most n line ls in
    ⊎_elim (λ l. omega arith) (λ l. let z = ap (λ (x : List (List ℕ)). length (entries (sayings (suc n) x))) (no_more j l) in omega arith) (end_or_last c.ended)

-- ---- through the stop

stop_most : (o : ReaderOptions) (r : List Numbered) → (length (through_stop o r) ≤ length r) × (length (entries (through_stop o r)) ≤ length (entries r))
unfolding through_stop entries
stop_most o [] = (omega arith, omega arith)
stop_most o (on n said ∷ r) =
    let i = stop_most o r in
    branch (λ (l : List Numbered). (length (on n said ∷ l) ≤ suc (length r)) × (length (entries (on n said ∷ l)) ≤ length (entries (on n said ∷ r)))) (stops o said) [] (through_stop o r)
    (λ e. (omega arith, omega (arith, entries_cons n said [], entries_cons n said r)))
    (λ e. (omega (arith, i.0), omega (arith, i.1, entries_cons n said (through_stop o r), entries_cons n said r)))

-- ---- the whole

pub answers_most : (input : List ℕ) → length (answers input) ≤ length input
unfolding row
answers_most input = omega (arith, (stop_most listing_options (sayings 1 (lines input))).0, sayings_few 1 (lines input), lines_most (joins input))

pub answers_room : (input : List ℕ) → length (entries (answers input)) ≤ 3 * length input + 3
unfolding row
answers_room input = omega (arith, (stop_most listing_options (sayings 1 (lines input))).1, entries_most 1 (joins input))
