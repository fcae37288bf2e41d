-- A line taken into the carry in one go: what is added byte by byte is the line, but for a CR at its end, which waits.
-- Assumes nothing.
use Rattle.std.proofs.Common.{◌≡◌, ℕ, suc, ◌+◌, ◌-◌, ◌<◌, ◌≤◌, Bool, true, false, eqb, ltb, List, [], ◌∷◌, ◌++◌, length, get_or, take, drop, sym, refl, ap, ◌∙◌, subst, ap₂, append_assoc, append-nil, add-zero, suc-add, zero-add, arith, length-append, length-drop, drop_of_length-le, length-take-le, get_or-drop, drop-cons, take-take, ltb-false, ltb-true, eqb-true}
use mathlib.Core.Option.{Option}
use mathlib.Core.List.{foldl, Memᴰ}
use lib.Seq.{paste, take-paste, split_at, take-length}
use Rattle.std.specs.Prelude.{if◌then◌else◌}
use Rattle.digits.proofs.Tests.{or_true}
use Rattle.digits.proofs.Parts.{none_left}
use Rattle.reader.specs.Lines.{LF, CR, rest, Ended, with_CRLF, with_LF, with_text, Cut}
use Rattle.reader.proofs.Cutting.{cut}
use Rattle.reader.proofs.Searching.{tail_is, behind_inside, rest_behind, CutOff}
use Rattle.chunks.specs.Begun.{Kept, Begun, push, with_CR, add, seek}
use Rattle.chunks.specs.Next.{kept_in}
use Rattle.chunks.specs.Helpers.{held, Grown, UpToLF, ends_in_CR}
use Rattle.chunks.proofs.Brief.{push_more, short_kept}
use Rattle.chunks.proofs.Pass.{step_over}
use Rattle.chunks.proofs.Waiting.{waiting, whole}
use Rattle.chunks.proofs.InPlace.{has_LF, LF_before_rest, settled, at_LF, feed_in}

-- bytes that are no LF
seek_run : (line : List ℕ) (start : Option (List ℕ)) (empties : ℕ) (b : Begun) → ¬ Memᴰ LF line → seek start empties b line ≡ seek start empties (foldl add b line) []
seek_run [] start empties b no_LF = refl
seek_run (c ∷ line) start empties b no_LF =
    step_over start empties b c line (λ e. no_LF (Memᴰ.head (sym e))) ∙ seek_run line start empties (add b c) (λ m. no_LF (Memᴰ.tail m))

-- a line and some bytes behind it
abbrev extended : Kept → List ℕ → Kept
extended k line = record { bytes = k.bytes ++ line; skipped = k.skipped }

with_add : (b : Begun) (c : ℕ) → length (with_CR b).bytes < 522 → with_CR (add b c) ≡ extended (with_CR b) (c ∷ [])
unfolding add
with_add b c h = go (eqb c CR) refl
  where
    go : (t : Bool) → eqb c CR ≡ t → with_CR (if t then record { kept = with_CR b; cr = true } else record { kept = push (with_CR b) c; cr = false }) ≡ extended (with_CR b) (c ∷ [])
    go true e = push_more (with_CR b) CR h ∙ ap (λ (x : ℕ). extended (with_CR b) (x ∷ [])) (sym (eqb-true c CR e))
    go false e = push_more (with_CR b) c h

extended_twice : (k : Kept) (xs ys : List ℕ) → extended (extended k xs) ys ≡ extended k (xs ++ ys)
extended_twice k xs ys = ap (λ (l : List ℕ). record { bytes = l; skipped = k.skipped }) (append_assoc k.bytes xs ys)

with_run : (line : List ℕ) (b : Begun) → length (with_CR b).bytes + length line ≤ 522 → with_CR (foldl add b line) ≡ extended (with_CR b) line
with_run [] b h = ap (λ (l : List ℕ). record { bytes = l; skipped = (with_CR b).skipped }) (sym (append-nil (with_CR b).bytes))
with_run (c ∷ line) b h =
    let e = with_add b c (omega arith) in
    with_run line (add b c) (rw e (simp length-append (omega arith))) ∙ ap (λ (k : Kept). extended k line) e ∙ extended_twice (with_CR b) (c ∷ []) line

foldl_last : (b : Begun) (line : List ℕ) (c : ℕ) → foldl add b (line ++ (c ∷ [])) ≡ add (foldl add b line) c
foldl_last b [] c = refl
foldl_last b (d ∷ line) c = foldl_last (add b d) line c

-- all but the last byte, and the last
front_last : (line : List ℕ) → 0 < length line → line ≡ take (length line - 1) line ++ (get_or line (length line - 1) 0 ∷ [])
front_last line h =
    let none : drop (suc (length line - 1)) line ≡ [] = drop_of_length-le line {i = suc (length line - 1)} (omega arith) in
    split_at line (length line - 1) 0 (omega arith) ∙ rw none

pub none_ends : (line : List ℕ) → length line ≡ 0 → false ≡ ends_in_CR line
none_ends line h = sym (ap ends_in_CR (none_left line h))

pub some_CR : (line : List ℕ) → ends_in_CR line ≡ true → 0 < length line
some_CR line e = go (ltb 0 (length line)) refl
  where
    go : (t : Bool) → ltb 0 (length line) ≡ t → 0 < length line
    go true h = ltb-true 0 (length line) h
    go false h =
        let z : ◌≡◌ {A = Bool} false true = none_ends line (omega (arith, ltb-false 0 (length line) h)) ∙ e in
        let y : ◌≡◌ {A = ℕ} 0 1 = cc in absurd (omega arith)

module _ (kept : Kept) (line : List ℕ) (fits : length kept.bytes + length line ≤ 522) where
  b₀ : Begun
  b₀ = record { kept = kept; cr = false }

  abbrev n : ℕ
  n = length line - 1

  -- with the last byte
  last_added : 0 < length line → foldl add b₀ line ≡ add (foldl add b₀ (take n line)) (get_or line n 0)
  last_added h = ap (foldl add b₀) (front_last line h) ∙ foldl_last b₀ (take n line) (get_or line n 0)

  front_run : 0 < length line → with_CR (foldl add b₀ (take n line)) ≡ extended kept (take n line)
  unfolding b₀ with_CR
  front_run h = with_run (take n line) b₀ (omega (arith, length-take-le n line (omega arith)))

  run_CR : ends_in_CR line ≡ true → foldl add b₀ line ≡ record { kept = extended kept (take n line); cr = true }
  unfolding add
  run_CR e = let l = some_CR line e in last_added l ∙ rw e (ap (λ (k : Kept). record { kept = k; cr = true }) (front_run l))

  run_plain : ends_in_CR line ≡ false → foldl add b₀ line ≡ record { kept = extended kept line; cr = false }
  unfolding add b₀
  run_plain e = go (ltb 0 (length line)) refl
    where
      go : (t : Bool) → ltb 0 (length line) ≡ t → foldl add b₀ line ≡ record { kept = extended kept line; cr = false }
      go true h =
          let l = ltb-true 0 (length line) h in
          let k : push (with_CR (foldl add b₀ (take n line))) (get_or line n 0) ≡ extended kept line =
          ap (λ (x : Kept). push x (get_or line n 0)) (front_run l)
          ∙ push_more (extended kept (take n line)) (get_or line n 0) (simp (length-append, length-take-le n line (omega arith)) (omega arith))
          ∙ extended_twice kept (take n line) (get_or line n 0 ∷ []) ∙ ap (extended kept) (sym (front_last line l)) in
          last_added l ∙ rw e (ap (λ (x : Kept). record { kept = x; cr = false }) k)
      go false h =
          let e : line ≡ [] = none_left line (omega (arith, ltb-false 0 (length line) h)) in
          ap (foldl add b₀) e
          ∙ ap (λ (x : List ℕ). record { kept = record { bytes = x; skipped = kept.skipped }; cr = false }) (sym (append-nil kept.bytes) ∙ ap (λ (x : List ℕ). kept.bytes ++ x) (sym e))

-- ---- a line that does not end in the text

open_is : {text line end rest : List ℕ} → text ≡ line ++ (end ++ rest) → Ended line end rest → length text - length rest ≤ length line → text ≡ line
open_is {line} w (with_CRLF {rest = r}) h = absurd (omega (arith, ap length w, length-append line (CR ∷ LF ∷ r)))
open_is {line} w (with_LF {rest = r} n) h = absurd (omega (arith, ap length w, length-append line (LF ∷ r)))
open_is {line} w with_text h = w ∙ append-nil line

has_behind : (xs ys : List ℕ) → has_LF ys ≡ true → has_LF (xs ++ ys) ≡ true
unfolding has_LF
has_behind [] ys h = h
has_behind (x ∷ xs) ys h = rw (has_behind xs ys h) (or_true (eqb x LF))

pub ended_has : {text line end rest : List ℕ} → text ≡ line ++ (end ++ rest) → Ended line end rest → length line < length text - length rest → has_LF text ≡ true
unfolding has_LF
ended_has {line} w (with_CRLF {rest = r}) h = ap has_LF w ∙ has_behind line (CR ∷ LF ∷ r) refl
ended_has {line} w (with_LF {rest = r} n) h = ap has_LF w ∙ has_behind line (LF ∷ r) refl
ended_has {line} w with_text h = absurd (omega (arith, ap length (w ∙ append-nil line)))

-- ---- what `gather` comes to

take_over : (xs ys : List ℕ) (k : ℕ) → take (length xs + k) (xs ++ ys) ≡ xs ++ take k ys
take_over [] ys k = ap (λ (n : ℕ). take n ys) (zero-add k)
take_over (x ∷ xs) ys k = ap (λ (n : ℕ). take n (x ∷ (xs ++ ys))) (suc-add (length xs) k) ∙ ap (λ (l : List ℕ). x ∷ l) (take_over xs ys k)

module _ (chunk : List ℕ) (position : ℕ) (carry : List ℕ) (used skipped : ℕ) (line : List ℕ) (n : ℕ) (carry' : List ℕ)
    (inside : position ≤ length chunk) (few : used ≤ 522) (big : 522 ≤ length carry)
    (known : CutOff (take (length chunk - position) (drop position chunk)) line n) (fits : length line ≤ 522 - used)
    (copied : carry' ≡ paste carry used line (length line)) where
  abbrev text : List ℕ
  text = drop position chunk

  here : CutOff text line n
  here = rw (tail_is chunk position) at known

  cuts : Cut text line (rest text)
  cuts = subst (λ (l : List ℕ). Cut text l (rest text)) (sym here.first) (cut text)

  used_is : length (take used carry) ≡ used
  used_is = length-take-le used carry (omega arith)

  taken : (k : ℕ) → k ≤ length line → take (used + k) carry' ≡ take used carry ++ take k line
  taken k h =
      ap (take (used + k)) copied
      ∙ sym (take-take (used + k) (used + length line) (paste carry used line (length line)) (omega arith))
      ∙ ap (take (used + k)) (take-paste carry used line (length line) (omega arith) (omega arith) ∙ ap (λ (l : List ℕ). take used carry ++ l) (take-length line))
      ∙ ap (λ (m : ℕ). take (m + k) (take used carry ++ line)) (sym used_is)
      ∙ take_over (take used carry) line k

  grown : (k : ℕ) → k ≤ length line → (m : ℕ) → m ≡ used + k → Grown carry used (kept_in carry' m skipped) m skipped carry'
  grown k h m e =
      record {
        holds = refl;
        within = omega arith;
        more = omega arith;
        earlier = λ _. ap (λ (j : ℕ). take j carry') (sym (add-zero used)) ∙ taken 0 (omega arith) ∙ append-nil (take used carry);
      }

  -- the line ends in the chunk
  module _ (more : length line < n) where
    has : has_LF text ≡ true
    has = ended_has cuts.whole cuts.ended (omega (arith, here.place))

    at_feed : get_or chunk (position + n - 1) 0 ≡ LF
    at_feed =
        let j : position + (length text - length (rest text) - 1) ≡ position + n - 1 = omega (arith, here.place) in
        ap (λ (k : ℕ). get_or chunk k 0) (sym j) ∙ sym (get_or-drop position chunk (length text - length (rest text) - 1) 0) ∙ (LF_before_rest text has).feed

    ahead : position < length chunk
    ahead = omega (arith, (LF_before_rest text has).shorter, length-drop position chunk)

    behind_chunk : drop (position + n - 1) chunk ≡ LF ∷ rest text
    behind_chunk =
        let i = behind_inside chunk position ahead n here.place in
        let j : suc (position + n - 1) ≡ position + n = omega arith in
        drop-cons chunk (position + n - 1) 0 (omega arith)
        ∙ ap₂ (λ (c : ℕ) (k : ℕ). c ∷ drop k chunk) at_feed j
        ∙ ap (λ (l : List ℕ). LF ∷ l) (rest_behind chunk position ahead n here.place)

    whole_is : whole (held carry used skipped false) text ≡ kept_in carry' (used + length line) skipped
    unfolding waiting
    whole_is =
        ap (foldl push (kept_in carry used skipped)) (sym here.first)
        ∙ short_kept line (kept_in carry used skipped) (omega (arith, used_is))
        ∙ ap (λ (l : List ℕ). record { bytes = l; skipped = skipped }) (sym (taken (length line) (omega arith) ∙ ap (λ (l : List ℕ). take used carry ++ l) (take-length line)))

    pub gathered_line : UpToLF chunk position (held carry used skipped false) (position + n - 1) (held carry' (used + length line) skipped false)
        × Grown carry used (kept_in carry' (used + length line) skipped) (used + length line) skipped carry'
    gathered_line = (
      record {
        goes_on = λ start empties.
            feed_in text start empties (held carry used skipped false) has
            ∙ ap (λ (k : Kept). settled start empties k (rest text)) whole_is
            ∙ sym (ap (seek start empties (held carry' (used + length line) skipped false)) behind_chunk ∙ at_LF start empties (held carry' (used + length line) skipped false) LF (rest text) refl);
        from = omega arith;
        inside = omega (arith, behind_inside chunk position ahead n here.place);
        feed = λ _. at_feed;
      },
      grown (length line) (omega arith) (used + length line) refl,
    )

  -- it does not
  module _ (all : n ≤ length line) where
    text_is : text ≡ line
    text_is = open_is cuts.whole cuts.ended (omega (arith, here.place))

    at_end : position + n ≡ length chunk
    at_end =
        let e : length line ≡ length chunk - position = sym (ap length text_is) ∙ length-drop position chunk in
        let r : length (rest text) ≡ 0 = omega (arith, ap length cuts.whole, length-append line (cuts.end ++ rest text), length-append cuts.end (rest text), ap length text_is) in
        omega (arith, here.place, ap length text_is)

    none_behind : drop (position + n) chunk ≡ []
    none_behind = drop_of_length-le chunk {i = position + n} (omega (arith, at_end))

    open_passed : (m : ℕ) (w : Bool) → foldl add (held carry used skipped false) line ≡ held carry' m skipped w → UpToLF chunk position (held carry used skipped false) (position + n) (held carry' m skipped w)
    open_passed m w e =
        record {
          goes_on = λ start empties.
              ap (seek start empties (held carry used skipped false)) text_is
              ∙ seek_run line start empties (held carry used skipped false) cuts.no_LF
              ∙ ap₂ (seek start empties) e (sym none_behind);
          from = omega arith;
          inside = omega (arith, at_end);
          feed = λ h. absurd (omega (arith, at_end));
        }

    fits_in : length (take used carry) + length line ≤ 522
    fits_in = omega (arith, used_is)

    pub gathered_plain : ends_in_CR line ≡ false → UpToLF chunk position (held carry used skipped false) (position + n) (held carry' (used + length line) skipped false)
        × Grown carry used (kept_in carry' (used + length line) skipped) (used + length line) skipped carry'
    unfolding b₀
    gathered_plain e = (
      open_passed (used + length line) false
          (run_plain (kept_in carry used skipped) line fits_in e
          ∙ ap (λ (l : List ℕ). record { kept = record { bytes = l; skipped = skipped }; cr = false }) (sym (taken (length line) (omega arith) ∙ ap (λ (l : List ℕ). take used carry ++ l) (take-length line)))),
      grown (length line) (omega arith) (used + length line) refl,
    )

    pub gathered_CR : ends_in_CR line ≡ true → UpToLF chunk position (held carry used skipped false) (position + n) (held carry' (used + length line - 1) skipped true)
        × Grown carry used (kept_in carry' (used + length line - 1) skipped) (used + length line - 1) skipped carry'
    unfolding b₀
    gathered_CR e =
        let l = some_CR line e in
        let m : used + length line - 1 ≡ used + (length line - 1) = omega arith in (
          open_passed (used + length line - 1) true
              (run_CR (kept_in carry used skipped) line fits_in e
              ∙ ap (λ (l : List ℕ). record { kept = record { bytes = l; skipped = skipped }; cr = true }) (sym (ap (λ (j : ℕ). take j carry') m ∙ taken (length line - 1) (omega arith)))),
          grown (length line - 1) (omega arith) (used + length line - 1) m,
        )
