-- A capture that broke off: its last line is empty, refused, or the line of the undamaged text, since no record's line is another's beginning.
-- Assumes nothing.
use Prim.Native.Nat.{ℕ, suc, ◌≤◌}
use mathlib.Core.Path.{◌≡◌, refl, sym, ap, ap₂, ◌∙◌, subst}
use mathlib.Core.Logic.{◌≢◌}
use native.Mathlib.Omega.{arith}
use mathlib.Core.Bool.{Bool, true, false}
use mathlib.Core.Option.{some}
use mathlib.Core.List.{List, [], ◌∷◌, ◌++◌, append_assoc, append-nil, nil≢cons}
use borrow.Author.Tests.{ne_eqb}
use Rattle.digits.specs.Common.{Every}
use Rattle.digits.proofs.Tests.{and_false}
use Rattle.record.specs.Line.{Said, says, wrong, judge}
use Rattle.record.specs.Meaning.{meaning, end_of_file}
use Rattle.record.specs.Noise.{SaysARecord}
use Rattle.record.proofs.Noise.{no_record_goes_on, characters}
use Rattle.reader.specs.Lines.{LF, CR, at_LF, ends_line, first_line, rest, lines}
use Rattle.reader.specs.Row.{sayings, row, is_end}
use Rattle.reader.proofs.Cutting.{lines_cons, lines_closed}
use Rattle.loader.specs.Noise.{NoLF}
use Rattle.loader.proofs.Edits.{last_cut}
use Rattle.salvage.specs.Fates.{Says}
use Rattle.salvage.specs.Standing.{Stands, broken_off, same, respelt, damaged, ended}
use Rattle.salvage.specs.Claims.{CutOffAnywhere}
use Rattle.salvage.proofs.Fates.{said_so, is_the_end, is_no_end}
use Rattle.salvage.proofs.Stating.{Unrefused, unrefused_behind, unrefused_not}
use Rattle.salvage.proofs.Claims.{salvage_in_order}

-- ---- first lines

-- a text without LF is one line
plain_line : (p : List ℕ) → NoLF p → (first_line p ≡ p) × (rest p ≡ [])
unfolding first_line ends_line rest
plain_line [] n = (refl, refl)
plain_line (c ∷ p) (n, ns) =
    let (e, f) = plain_line p ns in
    rw (ne_eqb c LF n, no_feed p ns, and_false) (ap (λ (l : List ℕ). c ∷ l) e, f)
  where
    no_feed : (p : List ℕ) → Every (λ (c : ℕ). c ≢ LF) p → at_LF p ≡ false
    no_feed [] h = refl
    no_feed (x ∷ p) (h, hs) = ne_eqb x LF h

-- the characters of a record end no line
first_line_on : (p q : List ℕ) → Every (λ (c : ℕ). 48 ≤ c) p → first_line (p ++ q) ≡ p ++ first_line q
unfolding first_line ends_line
first_line_on [] q h = refl
first_line_on (c ∷ p) q (h, hs) = rw (ne_eqb c LF (λ e. omega arith), ne_eqb c CR (λ e. omega arith)) (ap (λ (l : List ℕ). c ∷ l) (first_line_on p q hs))

-- ---- the last line

-- a line that goes on in the undamaged text
ends_there : (c : ℕ) (p q : List ℕ) (us : List (List ℕ)) (k : ℕ) → Unrefused k (first_line ((c ∷ p) ++ q) ∷ us) → Stands ((c ∷ p) ∷ []) (first_line ((c ∷ p) ++ q) ∷ us)
ends_there c p q us k u = go (judge (c ∷ p)) refl
  where
    there : (kind address : ℕ) (payload : List ℕ) → judge (c ∷ p) ≡ says kind address payload → (l : List ℕ) → l ≡ (c ∷ p) ++ first_line q → Unrefused k (l ∷ us)
        → (s : Said) → judge l ≡ s → Stands ((c ∷ p) ∷ []) (l ∷ us)
    there kind address payload e l w u (says kind' address' payload') e' =
        let h : SaysARecord ((c ∷ p) ++ first_line q) = subst SaysARecord w (kind', address', payload', e') in
        let z : l ≡ c ∷ p = w ∙ ap (λ (x : List ℕ). (c ∷ p) ++ x) (no_record_goes_on (c ∷ p) (first_line q) (kind, address, payload, e) h) ∙ append-nil (c ∷ p) in
        respelt {u = l} (meaning kind address payload) (said_so (c ∷ p) kind address payload e) (rw z (said_so (c ∷ p) kind address payload e)) broken_off
    there kind address payload e l w u (wrong r) e' =
        absurd (unrefused_not k l us r (record { has_byte = λ z. nil≢cons (sym (sym w ∙ z)); judged = e' }) u)

    go : (s : Said) → judge (c ∷ p) ≡ s → Stands ((c ∷ p) ∷ []) (first_line ((c ∷ p) ++ q) ∷ us)
    go (says kind address payload) e =
        there kind address payload e (first_line ((c ∷ p) ++ q)) (first_line_on (c ∷ p) q (characters (c ∷ p) (kind, address, payload, e))) u (judge (first_line ((c ∷ p) ++ q))) refl
    go (wrong r) e = damaged r [] (record { has_byte = λ z. nil≢cons (sym z); judged = e }) tt broken_off

open_stands : (p q : List ℕ) → NoLF p → (k : ℕ) → Unrefused k (lines (p ++ q)) → Stands (lines p) (lines (p ++ q))
unfolding lines
open_stands [] q n k u = broken_off
open_stands (c ∷ p) q n k u =
    let (e, f) = plain_line (c ∷ p) n in
    let w : lines (c ∷ p) ≡ (c ∷ p) ∷ [] = lines_cons c p ∙ ap₂ (λ (l t : List ℕ). l ∷ lines t) e f in
    let v = lines_cons c (p ++ q) in
    rw (w, v) (ends_there c p q (lines (rest ((c ∷ p) ++ q))) k (rw v at u))

-- the same lines before. After an end record nothing matters
pub ahead_same : (hs ls us : List (List ℕ)) (k : ℕ) → Unrefused k (hs ++ us) → ((k' : ℕ) → Unrefused k' us → Stands ls us) → Stands (hs ++ ls) (hs ++ us)
unfolding sayings
ahead_same [] ls us k u f = f k u
ahead_same ([] ∷ hs) ls us k u f = same (ahead_same hs ls us (suc k) u f)
ahead_same ((c ∷ l) ∷ hs) ls us k u f = go (judge (c ∷ l)) refl (λ v. ahead_same hs ls us (suc k) v f)
  where
    go : (s : Said) → judge (c ∷ l) ≡ s → (Unrefused (suc k) (hs ++ us) → Stands (hs ++ ls) (hs ++ us)) → Stands ((c ∷ l) ∷ (hs ++ ls)) ((c ∷ l) ∷ (hs ++ us))
    go (says kind address payload) e below = end_or_not (is_end (meaning kind address payload)) refl
      where
        h : Says (c ∷ l) (meaning kind address payload)
        h = said_so (c ∷ l) kind address payload e

        end_or_not : (b : Bool) → is_end (meaning kind address payload) ≡ b → Stands ((c ∷ l) ∷ (hs ++ ls)) ((c ∷ l) ∷ (hs ++ us))
        end_or_not true z = let w : Says (c ∷ l) end_of_file = h ∙ ap some (is_the_end (meaning kind address payload) z) in ended w w
        end_or_not false z = same (below (unrefused_behind k (c ∷ l) (hs ++ us) (meaning kind address payload) h (is_no_end (meaning kind address payload) z) u))
    go (wrong r) e below = absurd (unrefused_not k (c ∷ l) (hs ++ us) r (record { has_byte = λ z. nil≢cons (sym z); judged = e }) u)

pub cut_off_anywhere : CutOffAnywhere
unfolding row
cut_off_anywhere text later u =
    let k = last_cut text in
    let here : lines text ≡ lines k.head ++ lines k.open_part = ap lines k.whole ∙ lines_closed k.is_closed k.open_part in
    let there : lines (text ++ later) ≡ lines k.head ++ lines (k.open_part ++ later) =
    ap (λ (l : List ℕ). lines (l ++ later)) k.whole ∙ ap lines (append_assoc k.head k.open_part later) ∙ lines_closed k.is_closed (k.open_part ++ later) in
    salvage_in_order text (text ++ later)
    (rw (here, there) (ahead_same (lines k.head) (lines k.open_part) (lines (k.open_part ++ later)) 1 (subst (Unrefused 1) there u) (λ k' v. open_stands k.open_part later k.plain k' v)))
    u
