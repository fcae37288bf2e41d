-- The claims of `specs/Salvage.antt`: those of the crate `salvage`, in numbers. The code says whether anything was written.
-- Assumes nothing.
use Prim.Native.Nat.{ℕ, ◌+◌, ◌*◌, ◌≤◌}
use mathlib.Core.Path.{◌≡◌, refl, sym, ◌∙◌, ap, subst}
use mathlib.Core.Logic.{◌≢◌, ◌⊎◌, inl, inr}
use native.Mathlib.Omega.{arith}
use mathlib.Core.Option.{Option, none, some}
use mathlib.Core.List.Memᴰ
use mathlib.Core.List.{List, [], ◌∷◌, ◌++◌, map, Memᴰ}
use lib.ListN.{length, take, drop}
use Rattle.digits.specs.Common.{pasted}
use Rattle.digits.proofs.Pasting.{pasted_none, pasted_part, pasted_behind}
use Rattle.record.specs.Refusals.{Refusal, refusal, number_of}
use Rattle.record.specs.Meaning.{Meaning}
use Rattle.record.specs.Written.{line_of}
use Rattle.reader.specs.Lines.{lines}
use Rattle.steps.specs.Steps.{Tally, Verdict, accepted, refused as not-loaded}
use Rattle.intel.specs.Placing.{placements}
use Rattle.loader.specs.Load.{load}
use Rattle.salvage.specs.Salvage.{Entry, saved, clean, removed, refusal_for}
use Rattle.salvage.specs.Claims.{Accounted, is_kept, is_listed}
use Rattle.salvage.specs.Standing.{Among}
use Rattle.salvage.specs.Told.{ToldSalvage, saves, places_in, list_bytes, answered_by, output_by, list_by, Why, output_short, list_short, both_fit}
use Rattle.salvage.proofs.Claims.{salvage_in_order, as_asked}
use Rattle.salvage.proofs.Clean.{clean_lines, clean_is_clean}
use Rattle.salvage.proofs.Accounts.{nothing_lost, list_rises}
use Rattle.salvage.proofs.Broken.{cut_off_anywhere}
use Rattle.salvage.proofs.Bytes.{one_byte_off}
use Rattle.salvage.proofs.Room.{clean_short, removed_few}
use Rattle.salvage.proofs.Putting.{list_length}
use Rattle.salvage.proofs.Told.{reasons, one_reason}
use Rattle.salvage.proofs.Loads.{clean_loads}
use Rattle.codes.specs.Codes.{OK, REFUSED, value, loading, load_numbers, salvaging}
use Rattle.ihex.specs.Entries.{IhexSalvage}
use Rattle.ihex.specs.Salvage.{IhexSalvageUnique, IhexSalvageReasons, IhexSalvageSaves, IhexSalvageKeeps, IhexSalvageRoom, IhexSalvageIsStated, IhexSalvageAsAsked, IhexSalvageCutOff, IhexSalvageOneByteOff, KeptOrListed, in_the_file, in_the_list, IhexSalvageNothingLost, IhexSalvageListRises, IhexSalvageLoads, IhexSalvageAgain}

pub ihex_salvage_unique : IhexSalvageUnique
ihex_salvage_unique text out list r a b o l r' a' b' o' l' x y = (
  (x.code_is ∙ sym y.code_is, x.a_is ∙ sym y.a_is, x.b_is ∙ sym y.b_is),
  x.output_is ∙ sym y.output_is,
  x.list_is ∙ sym y.list_is,
)

pub ihex_salvage_reasons : IhexSalvageReasons
ihex_salvage_reasons text out list r a b o l x =
    let t = answered_by (refusal_for text (length out) (places_in list)) text in
    let why = reasons text (length out) (places_in list) in
    record { told = t; why = why; code_is = x.code_is; a_is = x.a_is; b_is = x.b_is; only = λ u w. one_reason text (length out) (places_in list) u t w why }

-- ---- what the code says

-- IHEX_OK is returned exactly where both have room
ok_none : (text : List ℕ) (o : Option Refusal) → OK ≡ (salvaging (answered_by o text)).code → o ≡ none
ok_none text none e = refl
ok_none text (some (refusal n vs)) e = absurd (omega arith)

refused_some : (text : List ℕ) (o : Option Refusal) → (salvaging (answered_by o text)).code ≢ OK → (r : Refusal) × (o ≡ some r)
refused_some text none h = absurd (h refl)
refused_some text (some r) h = (r, refl)

-- both have room where nothing is refused
room_of : (text : List ℕ) (room places : ℕ) → refusal_for text room places ≡ none → (length (clean text) ≤ room) × (length (removed text) ≤ places)
room_of text room places e = go (subst (λ (o : Option Refusal). Why text room places (answered_by o text)) e (reasons text room places)) refl
  where
    go : {t : ToldSalvage} → Why text room places t → t ≡ answered_by none text → (length (clean text) ≤ room) × (length (removed text) ≤ places)
    go (output_short h) q = let z : ◌≡◌ {A = ℕ} 0 1 = cc in absurd (omega arith)
    go (list_short h k) q = let z : ◌≡◌ {A = ℕ} 0 1 = cc in absurd (omega arith)
    go (both_fit h k) q = (h, k)

-- and nothing is refused where both have it
none_of : (text : List ℕ) (room places : ℕ) → length (clean text) ≤ room → length (removed text) ≤ places → refusal_for text room places ≡ none
none_of text room places h k =
    told_none (refusal_for text room places) (one_reason text room places (saves (length (clean text)) (length (removed text))) (answered_by (refusal_for text room places) text) (both_fit h k) (reasons text room places))
  where
    told_none : (o : Option Refusal) → saves (length (clean text)) (length (removed text)) ≡ answered_by o text → o ≡ none
    told_none none e = refl
    told_none (some r) e = let z : ◌≡◌ {A = ℕ} 0 1 = cc in absurd (omega arith)

pub ihex_salvage_saves : IhexSalvageSaves
ihex_salvage_saves text out list a b o l x =
    let none_so = ok_none text (refusal_for text (length out) (places_in list)) x.code_is in
    let (h, k) = room_of text (length out) (places_in list) none_so in
    let a_is : a ≡ length (clean text) = x.a_is ∙ ap (λ (r : Option Refusal). value (salvaging (answered_by r text)) 0) none_so in
    let b_is : b ≡ length (removed text) = x.b_is ∙ ap (λ (r : Option Refusal). value (salvaging (answered_by r text)) 1) none_so in
    let o_is : o ≡ pasted out 0 (clean text) = x.output_is ∙ ap (λ (r : Option Refusal). output_by r text out) none_so in
    let l-is : l ≡ pasted list 0 (list_bytes (removed text)) = x.list_is ∙ ap (λ (r : Option Refusal). list_by r text list) none_so in
    let n : 16 * b ≡ length (list_bytes (removed text)) = omega (arith, b_is, list_length (removed text)) in
    record {
      length_is = a_is;
      file = rw (a_is, o_is) (pasted_part out 0 (clean text) (omega arith));
      count_is = b_is;
      entries = rw (n, l-is) (pasted_part list 0 (list_bytes (removed text)) (omega (arith, list_length (removed text))));
      output_after = rw (a_is, o_is) (after out (clean text) (omega arith));
      list_after = rw (n, l-is) (after list (list_bytes (removed text)) (omega (arith, list_length (removed text))));
    }
  where
    after : (buffer xs : List ℕ) → length xs ≤ length buffer → drop (length xs) (pasted buffer 0 xs) ≡ drop (length xs) buffer
    after buffer xs h = let e : 0 + length xs ≡ length xs = omega arith in subst (λ (k : ℕ). drop k (pasted buffer 0 xs) ≡ drop k buffer) e (pasted_behind buffer 0 xs (omega arith))

pub ihex_salvage_keeps : IhexSalvageKeeps
ihex_salvage_keeps text out list r a b o l x h =
    let (w, e) = refused_some text (refusal_for text (length out) (places_in list)) (λ q. h (x.code_is ∙ q)) in
    (x.output_is ∙ ap (λ (r : Option Refusal). output_by r text out) e, x.list_is ∙ ap (λ (r : Option Refusal). list_by r text list) e)

pub ihex_salvage_room : IhexSalvageRoom
ihex_salvage_room text out list r a b o l x h k =
    let e = none_of text (length out) (places_in list) (omega (arith, clean_short text)) (omega (arith, (removed_few text).0)) in
    x.code_is ∙ ap (λ (r : Option Refusal). (salvaging (answered_by r text)).code) e

-- ---- what the file states

pub ihex_salvage_is_stated : IhexSalvageIsStated
ihex_salvage_is_stated text undamaged out list a b o l x s u =
    subst (λ (f : List ℕ). Among (placements f) (placements undamaged)) (sym (ihex_salvage_saves text out list a b o l x).file) (salvage_in_order text undamaged s u)

pub ihex_salvage_as_asked : IhexSalvageAsAsked
ihex_salvage_as_asked text undamaged out list a b o l x s u p m =
    as_asked text undamaged s u p (subst (λ (f : List ℕ). Memᴰ p (placements f)) (ihex_salvage_saves text out list a b o l x).file m)

pub ihex_salvage_cut_off : IhexSalvageCutOff
ihex_salvage_cut_off text more out list a b o l x u =
    subst (λ (f : List ℕ). Among (placements f) (placements (text ++ more))) (sym (ihex_salvage_saves text out list a b o l x).file) (cut_off_anywhere text more u)

pub ihex_salvage_one_byte_off : IhexSalvageOneByteOff
ihex_salvage_one_byte_off before old new after out list a b o l h k x u n =
    subst (λ (f : List ℕ). Among (placements f) (placements (before ++ (old ++ after)))) (sym (ihex_salvage_saves (before ++ (new ++ after)) out list a b o l x).file)
    (one_byte_off before old new after h k u n)

-- ---- nothing is lost

-- a record's line is among the lines of records
line_among : (m : Meaning) (ms : List Meaning) → Memᴰ m ms → Memᴰ (line_of m) (map line_of ms)
line_among m [] h = absurd (Memᴰ.not-nil h)
line_among m (x ∷ ms) h = go (Memᴰ.cases_cons h) (line_among m ms)
  where
    go : (m ≡ x) ⊎ Memᴰ m ms → (Memᴰ m ms → Memᴰ (line_of m) (map line_of ms)) → Memᴰ (line_of m) (map line_of (x ∷ ms))
    go (inl e) later = Memᴰ.head (ap line_of e)
    go (inr k) later = Memᴰ.tail (later k)

pub ihex_salvage_nothing_lost : IhexSalvageNothingLost
ihex_salvage_nothing_lost text out list a b o l x n ahead line r h =
    let s = ihex_salvage_saves text out list a b o l x in
    go (take a o) s.file (take (16 * b) l) s.entries (nothing_lost text n ahead line r h)
  where
    go : (file : List ℕ) → file ≡ clean text → (entries : List ℕ) → entries ≡ list_bytes (removed text) → Accounted text n line → KeptOrListed n line file entries
    go file f entries e (is_kept m says k i) =
        in_the_file m says (subst (λ (ls : List (List ℕ)). Memᴰ (line_of m) ls) (sym (ap lines f ∙ clean_lines text)) (line_among m (saved text) i))
    go file f entries e (is_listed why i) = in_the_list (removed text) why e i

pub ihex_salvage_list_rises : IhexSalvageListRises
ihex_salvage_list_rises text out list a b o l x =
    let s = ihex_salvage_saves text out list a b o l x in
    (removed text, sym s.count_is, s.entries, list_rises text)

pub ihex_salvage_loads : IhexSalvageLoads
ihex_salvage_loads text out list a b o l x first page marks r p m y =
    let f = (ihex_salvage_saves text out list a b o l x).file in
    rw (y.numbers, f) (go (load (clean text) first page marks).answer (clean_loads text first page marks))
  where
    codes : List ℕ
    codes = OK ∷ (REFUSED + 16) ∷ (REFUSED + 17) ∷ (REFUSED + 21) ∷ []

    refused_so : (r : Refusal) (line : ℕ) → Memᴰ (number_of r) (16 ∷ 17 ∷ 21 ∷ []) → Memᴰ (loading (not-loaded r line)).code codes
    refused_so (refusal n vs) line m = by_number (Memᴰ.cases_cons m)
      where
        by_number : (n ≡ 16) ⊎ Memᴰ n (17 ∷ 21 ∷ []) → Memᴰ (REFUSED + n) codes
        by_number (inl e) = Memᴰ.tail (Memᴰ.head (ap (λ (k : ℕ). REFUSED + k) e))
        by_number (inr k) = later (Memᴰ.cases_cons k)
          where
            later : (n ≡ 17) ⊎ Memᴰ n (21 ∷ []) → Memᴰ (REFUSED + n) codes
            later (inl e) = Memᴰ.tail (Memᴰ.tail (Memᴰ.head (ap (λ (k : ℕ). REFUSED + k) e)))
            later (inr k) = last (Memᴰ.cases_cons k)
              where
                last : (n ≡ 21) ⊎ Memᴰ n [] → Memᴰ (REFUSED + n) codes
                last (inl e) = Memᴰ.tail (Memᴰ.tail (Memᴰ.tail (Memᴰ.head (ap (λ (k : ℕ). REFUSED + k) e))))
                last (inr z) = absurd (Memᴰ.not-nil z)

    go : (v : Verdict) → ((tally : Tally) × (v ≡ accepted tally)) ⊎ ((r : Refusal) × (line : ℕ) × (v ≡ not-loaded r line) × Memᴰ (number_of r) (16 ∷ 17 ∷ 21 ∷ []))
        → Memᴰ (load_numbers v).code codes
    go v (inl (t, e)) = rw e (Memᴰ.head refl)
    go v (inr (r, line, e, m)) = rw e (refused_so r line m)

none_pasted : (buffer : List ℕ) → pasted buffer 0 (list_bytes []) ≡ buffer
unfolding list_bytes
none_pasted buffer = pasted_none buffer 0

pub ihex_salvage_again : IhexSalvageAgain
ihex_salvage_again text out list a b o l x out₂ list₂ r₂ a₂ b₂ o₂ l₂ y h =
    let s = ihex_salvage_saves text out list a b o l x in
    let (same, nothing) = clean_is_clean text in
    let again : clean (take a o) ≡ take a o = ap clean s.file ∙ same ∙ sym s.file in
    let none_left : removed (take a o) ≡ [] = ap removed s.file ∙ nothing in
    let e = none_of (take a o) (length out₂) (places_in list₂) (omega (arith, ap length again, ap length s.file, s.length_is)) (omega (arith, ap length none_left)) in
    let ok : r₂ ≡ OK = y.code_is ∙ ap (λ (r : Option Refusal). (salvaging (answered_by r (take a o))).code) e in
    let t = ihex_salvage_saves (take a o) out₂ list₂ a₂ b₂ o₂ l₂ (subst (λ (r : ℕ). IhexSalvage (take a o) out₂ list₂ r a₂ b₂ o₂ l₂) ok y) in (
      ok,
      omega (arith, t.length_is, ap length again, ap length s.file, s.length_is),
      t.count_is ∙ ap length none_left,
      t.file ∙ again,
      y.list_is ∙ ap (λ (r : Option Refusal). list_by r (take a o) list₂) e ∙ ap (λ (es : List Entry). pasted list₂ 0 (list_bytes es)) none_left ∙ none_pasted list₂,
    )
