-- The second pass: numbers in bytes, an entry, a line, and then all of a text, each after what was put before it.
-- Assumes nothing.
use Prim.Native.Nat.{ℕ, zero, suc, ◌+◌, ◌*◌, ◌-◌, ◌/◌, ◌^◌, ◌≤◌, ◌<◌}
use mathlib.Core.Path.{◌≡◌, refl, sym, ap, ◌∙◌, subst}
use native.Mathlib.Omega.{arith}
use mathlib.Core.List.{List, [], ◌∷◌, ◌++◌, append_assoc, append-nil}
use lib.ListN.{length, length-append}
use Rattle.digits.specs.Common.{pasted}
use Rattle.digits.proofs.Pasting.{pasted_none, pasted_more}
use Rattle.record.specs.Refusals.{missing_end_of_file_record}
use Rattle.record.specs.Meaning.{Meaning, end_of_file}
use Rattle.record.specs.Record.{meant}
use Rattle.record.specs.Written.{line_of}
use Rattle.record.specs.declared.Record.{Record}
use Rattle.record.specs.declared.Record.TheVariants.{EndOfFile}
use Rattle.reader.specs.Lines.{LF}
use Rattle.salvage.specs.declared.Entry.{Entry as CodeEntry}
use Rattle.salvage.specs.declared.Walk.{Walk}
use Rattle.salvage.specs.declared.Turn.{Turn}
use Rattle.salvage.specs.declared.Turn.TheVariants.{Keeps, Drops, Ends, Missing}
use Rattle.salvage.specs.Salvage.{refused, Sorted, records, Entry, entry, end_added, entries, text_of, saved, clean, removed}
use Rattle.salvage.specs.Told.{low_first, reason_number, reason_value, entry_bytes, list_bytes}
use Rattle.salvage.specs.Helpers.{Tells, left, UnderWay, KeptOn, DroppedOn, SortsNext, PutLine, PutEntry, Fits, WroteAll}
use Rattle.salvage.proofs.Counting.{start, start_under_way, start_left, text_cons}
use Rattle.std.specs.Int.{w16, w32, w64, to_le_bytes}

-- ---- a number

pub low_length : (size n : ℕ) → length (low_first size n) ≡ size
unfolding low_first
low_length zero n = refl
low_length (suc size) n = omega (arith, low_length size (n / 256))

-- the bytes of a number, as the code's type gives them
pub low_two : (n : ℕ) → to_le_bytes w16 n ≡ low_first 2 n
unfolding low_first
low_two n = refl

pub low_four : (n : ℕ) → to_le_bytes w32 n ≡ low_first 4 n
unfolding low_first
low_four n =
    let b : n / 65536 ≡ n / 256 / 256 = omega arith in
    let c : n / 16777216 ≡ n / 256 / 256 / 256 = omega arith in
    rw (b, c) refl

pub low_eight : (n : ℕ) → to_le_bytes w64 n ≡ low_first 8 n
unfolding low_first
low_eight n =
    let b : n / 65536 ≡ n / 256 / 256 = omega arith in
    let c : n / 16777216 ≡ n / 256 / 256 / 256 = omega arith in
    let d : n / 4294967296 ≡ n / 256 / 256 / 256 / 256 = omega arith in
    let e : n / 1099511627776 ≡ n / 256 / 256 / 256 / 256 / 256 = omega arith in
    let f : n / 281474976710656 ≡ n / 256 / 256 / 256 / 256 / 256 / 256 = omega arith in
    let g : n / 72057594037927936 ≡ n / 256 / 256 / 256 / 256 / 256 / 256 / 256 = omega arith in
    rw (b, c, d, e, f, g) refl

-- ---- an entry

pub entry_length : (e : Entry) → length (entry_bytes e) ≡ 16
unfolding entry_bytes
entry_length (entry line why) =
    let w = low_first 4 (reason_number why) in
    let a = low_first 2 (reason_value why 0) in
    let b = low_first 2 (reason_value why 1) in
    let l = low_first 8 line in
    omega (arith, length-append (w ++ a ++ b) l, length-append (w ++ a) b, length-append w a, low_length 4 (reason_number why), low_length 2 (reason_value why 0), low_length 2 (reason_value why 1), low_length 8 line)

pub list_length : (es : List Entry) → length (list_bytes es) ≡ 16 * length es
unfolding list_bytes
list_length [] = refl
list_length (e ∷ es) = omega (arith, length-append (entry_bytes e) (list_bytes es), entry_length e, list_length es)

-- four numbers, one after the other
pub entry_put : (e : CodeEntry) (list : List ℕ) (place : ℕ) → 16 * place + 16 ≤ length list → (l₁ l₂ l₃ l₄ : List ℕ)
    → l₁ ≡ pasted list (16 * place) (low_first 4 e.why) → l₂ ≡ pasted l₁ (16 * place + 4) (low_first 2 e.a)
    → l₃ ≡ pasted l₂ (16 * place + 4 + 2) (low_first 2 e.b) → l₄ ≡ pasted l₃ (16 * place + 4 + 2 + 2) (low_first 8 e.line) → PutEntry e list place l₄
unfolding entry_bytes
entry_put e list place h l₁ l₂ l₃ l₄ p q r s line why t =
    let w = low_first 4 e.why in
    let a = low_first 2 e.a in
    let b = low_first 2 e.b in
    let at = 16 * place in
    let wl = low_length 4 e.why in
    let al = low_length 2 e.a in
    let bl = low_length 2 e.b in
    let wa = length-append w a in
    let wab = length-append (w ++ a) b in
    let two : l₂ ≡ pasted list at (w ++ a) = pasted_more list at w (omega arith) a (at + 4) p (omega arith) q in
    let three : l₃ ≡ pasted list at (w ++ a ++ b) = pasted_more list at (w ++ a) (omega arith) b (at + 4 + 2) two (omega arith) r in
    pasted_more list at (w ++ a ++ b) (omega arith) (low_first 8 e.line) (at + 4 + 2 + 2) three (omega arith) s
    ∙ rw (t.why_is, t.a_is, t.b_is, t.line_is)

-- ---- all of a text

pub record Writing (text out₀ list₀ out list pool : List ℕ) (w : Walk) (at place : ℕ) : Type 0 where
  pub under_way : UnderWay text w
  pub room : length pool ≡ 255
  pub done : List ℕ
  pub at_is : at ≡ length done
  pub out_is : out ≡ pasted out₀ 0 done
  pub out_same : length out ≡ length out₀
  pub rest_is : done ++ text_of (records (left w text)) ≡ clean text
  pub listed : List ℕ
  pub place_is : length listed ≡ 16 * place
  pub list_is : list ≡ pasted list₀ 0 listed
  pub list_same : length list ≡ length list₀
  pub count_is : place + length (entries (left w text)) ≡ length (removed text)
  pub entries_are : listed ++ list_bytes (entries (left w text)) ≡ list_bytes (removed text)

module _ (text out₀ list₀ : List ℕ) (fits : Fits text out₀ list₀) where
  pub writing_start : (pool : List ℕ) → length text < 2 ^ 64 → length pool ≡ 255 → (w : Walk) → w ≡ start → Writing text out₀ list₀ out₀ list₀ pool w 0 0
  unfolding clean saved removed
  writing_start pool h l w e =
      rw e (record {
        under_way = start_under_way text h;
        room = l;
        done = [];
        at_is = refl;
        out_is = sym (pasted_none out₀ 0);
        out_same = refl;
        rest_is = ap (λ (xs : List Sorted). text_of (records xs)) (start_left text);
        listed = [];
        place_is = refl;
        list_is = sym (pasted_none list₀ 0);
        list_same = refl;
        count_is = omega (arith, ap (λ (xs : List Sorted). length (entries xs)) (start_left text));
        entries_are = ap (λ (xs : List Sorted). list_bytes (entries xs)) (start_left text);
      })

  module _ (out list pool : List ℕ) (w : Walk) (at place : ℕ) (k : Writing text out₀ list₀ out list pool w at place) where
    -- the line of the next record to be saved has room
    line_room : (m : Meaning) (ms : List Meaning) → records (left w text) ≡ m ∷ ms → at + suc (length (line_of m)) ≤ length out
    line_room m ms e =
        omega (arith, fits.output, k.at_is, k.out_same, ap length k.rest_is, length-append k.done (text_of (records (left w text))), ap (λ (x : List Meaning). length (text_of x)) e, text_cons m ms)

    -- and so has the next entry
    entry_room : (x : Entry) (es : List Entry) → entries (left w text) ≡ x ∷ es → 16 * place + 16 ≤ length list
    entry_room x es e = omega (arith, fits.entries, k.list_same, k.count_is, ap length e)

    line_more : (m : Meaning) (ms : List Meaning) → records (left w text) ≡ m ∷ ms → (out' : List ℕ) → out' ≡ pasted out at (line_of m ++ (LF ∷ []))
        → (out' ≡ pasted out₀ 0 (k.done ++ (line_of m ++ (LF ∷ [])))) × ((k.done ++ (line_of m ++ (LF ∷ []))) ++ text_of ms ≡ clean text)
    unfolding text_of
    line_more m ms e out' p =
        let h = line_room m ms e in (
          pasted_more out₀ 0 k.done (omega (arith, k.at_is, k.out_same)) (line_of m ++ (LF ∷ [])) at k.out_is (omega (arith, k.at_is)) p,
          append_assoc k.done (line_of m ++ (LF ∷ [])) (text_of ms)
              ∙ ap (λ (l : List ℕ). k.done ++ l) (append_assoc (line_of m) (LF ∷ []) (text_of ms) ∙ sym (ap text_of e)) ∙ k.rest_is,
        )

    entry_more : (x : Entry) (es : List Entry) → entries (left w text) ≡ x ∷ es → (list' : List ℕ) → list' ≡ pasted list (16 * place) (entry_bytes x)
        → (list' ≡ pasted list₀ 0 (k.listed ++ entry_bytes x)) × ((k.listed ++ entry_bytes x) ++ list_bytes es ≡ list_bytes (removed text))
    unfolding list_bytes
    entry_more x es e list' p =
        let h = entry_room x es e in (
          pasted_more list₀ 0 k.listed (omega (arith, k.place_is, k.list_same)) (entry_bytes x) (16 * place) k.list_is (omega (arith, k.place_is)) p,
          append_assoc k.listed (entry_bytes x) (list_bytes es) ∙ ap (λ (l : List ℕ). k.listed ++ l) (sym (ap list_bytes e)) ∙ k.entries_are,
        )

    module _ (pool' : List ℕ) (t : Turn) (s : SortsNext text w pool' t) where
      pub writing_keeps : (x : Record) (w' : Walk) → t ≡ Keeps x w' → length pool' ≡ length pool → (r : ℕ) (out' : List ℕ) → length out' ≡ length out → PutLine x pool' out at r out'
          → Writing text out₀ list₀ out' list pool' w' r place
      writing_keeps x w' e l r out' lo p =
          let o : KeptOn text w pool' x w' = subst (SortsNext text w pool') e s in
          let m = meant x pool' in
          let h = line_room m (records (left w' text)) o.saved in
          let (q, z) = line_more m (records (left w' text)) o.saved out' (p.left o.lies h) in
          record {
            under_way = o.onward.under_way;
            room = l ∙ k.room;
            done = k.done ++ (line_of m ++ (LF ∷ []));
            at_is = omega (arith, p.place o.lies h, k.at_is, length-append k.done (line_of m ++ (LF ∷ [])), length-append (line_of m) (LF ∷ []));
            out_is = q;
            out_same = lo ∙ k.out_same;
            rest_is = z;
            listed = k.listed;
            place_is = k.place_is;
            list_is = k.list_is;
            list_same = k.list_same;
            count_is = omega (arith, k.count_is, ap length o.listed);
            entries_are = ap (λ (es : List Entry). k.listed ++ list_bytes es) (sym o.listed) ∙ k.entries_are;
          }

      pub drops_room : (x : CodeEntry) (w' : Walk) → t ≡ Drops x w' → 16 * place + 16 ≤ length list
      drops_room x w' e = let o : DroppedOn text w x w' = subst (SortsNext text w pool') e s in entry_room (entry o.line o.why) (entries (left w' text)) o.listed

      pub writing_drops : (x : CodeEntry) (w' : Walk) → t ≡ Drops x w' → length pool' ≡ length pool → (list' : List ℕ) → length list' ≡ length list → PutEntry x list place list'
          → Writing text out₀ list₀ out list' pool' w' at (place + 1)
      writing_drops x w' e l list' ll p =
          let o : DroppedOn text w x w' = subst (SortsNext text w pool') e s in
          let y = entry o.line o.why in
          let (q, z) = entry_more y (entries (left w' text)) o.listed list' (p o.line o.why o.tells) in
          record {
            under_way = o.onward.under_way;
            room = l ∙ k.room;
            done = k.done;
            at_is = k.at_is;
            out_is = k.out_is;
            out_same = k.out_same;
            rest_is = ap (λ (ms : List Meaning). k.done ++ text_of ms) (sym o.saved) ∙ k.rest_is;
            listed = k.listed ++ entry_bytes y;
            place_is = omega (arith, length-append k.listed (entry_bytes y), entry_length y, k.place_is);
            list_is = q;
            list_same = ll ∙ k.list_same;
            count_is = omega (arith, k.count_is, ap length o.listed);
            entries_are = z;
          }

      -- the end record's line
      ended : records (left w text) ≡ end_of_file ∷ [] → length pool' ≡ length pool → (r : ℕ) (out' : List ℕ) → PutLine EndOfFile pool' out at r out' → out' ≡ pasted out₀ 0 (clean text)
      unfolding text_of
      ended e l r out' p =
          let (q, z) = line_more end_of_file [] e out' (p.left (tt, omega arith) (line_room end_of_file [] e)) in q ∙ ap (pasted out₀ 0) (sym (append-nil (k.done ++ (line_of end_of_file ++ (LF ∷ [])))) ∙ z)

      pub writing_ends : t ≡ Ends → length pool' ≡ length pool → (r : ℕ) (out' : List ℕ) → PutLine EndOfFile pool' out at r out' → WroteAll text out₀ list₀ out' list
      unfolding list_bytes
      writing_ends e l r out' p =
          let (a, b) = subst (SortsNext text w pool') e s in
          record { output = ended a l r out' p; entries = k.list_is ∙ ap (pasted list₀ 0) (sym (append-nil k.listed) ∙ ap (λ (es : List Entry). k.listed ++ list_bytes es) (sym b) ∙ k.entries_are) }

      pub missing_room : t ≡ Missing → 16 * place + 16 ≤ length list
      missing_room e = let (a, b) = subst (SortsNext text w pool') e s in entry_room end_added [] b

      pub writing_missing : t ≡ Missing → length pool' ≡ length pool → (r : ℕ) (out' : List ℕ) → PutLine EndOfFile pool' out at r out'
          → (x : CodeEntry) → Tells x 0 (refused missing_end_of_file_record) → (list' : List ℕ) → PutEntry x list place list' → WroteAll text out₀ list₀ out' list'
      unfolding list_bytes
      writing_missing e l r out' p x tells list' pe =
          let (a, b) = subst (SortsNext text w pool') e s in
          let (q, z) = entry_more end_added [] b list' (pe 0 (refused missing_end_of_file_record) tells) in
          record { output = ended a l r out' p; entries = q ∙ ap (pasted list₀ 0) (sym (append-nil (k.listed ++ entry_bytes end_added)) ∙ z) }
