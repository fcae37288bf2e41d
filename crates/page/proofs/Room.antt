-- How long a page's file is at most: seven bytes for each place, seven and sixteen for each multiple of 65,536 on the way, and the rest once.
-- Assumes nothing.
use Prim.Native.Nat.{ℕ, suc, ◌+◌, ◌*◌, ◌/◌, ◌≤◌, ◌<◌}
use mathlib.Core.Path.{◌≡◌, refl}
use mathlib.Core.Logic.{◌≢◌, inl, inr}
use mathlib.Core.Option.{Option, none, some}
use mathlib.Core.List.{List, [], ◌∷◌, ◌++◌}
use native.Mathlib.Omega.{arith}
use lib.ListN.{length, drop, length-append, length-take}
use Rattle.marks.specs.Marks.{flags}
use Rattle.marks.proofs.Rows.{flags_length}
use Rattle.record.specs.declared.Record.{Record}
use Rattle.record.specs.declared.Record.TheVariants.{EndOfFile, ExtendedLinearAddress}
use Rattle.record.specs.Record.{meant}
use Rattle.record.specs.Written.{payload_of}
use Rattle.writer.specs.Line.{line, ended_line}
use Rattle.writer.specs.Object.{joined_lines}
use Rattle.writer.proofs.Measuring.{line_length}
use Rattle.page.specs.Pieces.{Piece}
use Rattle.page.specs.File.{upper, data_of, records, file}
use Rattle.page.specs.Claims.{RoomEnough}
use Rattle.page.proofs.Pieces.{Made, nothing_left, last, skipped, started, ended, cut, grown, made}
use Rattle.page.proofs.Shape.{Stands, fresh_stands, grown_stands}
use Rattle.page.proofs.Records.{by_latest}

-- ---- the text of records, line by line

-- a line with its LF
pub ended_length : (r : Record) (page : List ℕ) → length (ended_line r page) ≡ 12 + 2 * length (payload_of (meant r page))
ended_length r page = omega (arith, line_length r page, length-append (line r page) (10 ∷ []))

module _ (first : ℕ) (page : List ℕ) where
  -- how long the text of these pieces is
  abbrev long : Option ℕ → List Piece → ℕ
  long latest ps = length (joined_lines (records first latest ps) page)

  end_long : (latest : Option ℕ) → long latest [] ≡ 12
  unfolding joined_lines records
  end_long latest = omega (arith, length-append (ended_line EndOfFile page) [], ended_length EndOfFile page)

  data_long : (p : Piece) (rs : List Record) → length (joined_lines (data_of first p ∷ rs) page) ≤ 12 + 2 * p.size + length (joined_lines rs page)
  unfolding joined_lines
  data_long p rs =
      omega (arith, length-append (ended_line (data_of first p) page) (joined_lines rs page), ended_length (data_of first p) page, length-take p.size (drop p.place page))

  extension_long : (u : ℕ) (rs : List Record) → length (joined_lines (ExtendedLinearAddress u ∷ rs) page) ≡ 16 + length (joined_lines rs page)
  unfolding joined_lines
  extension_long u rs = omega (arith, length-append (ended_line (ExtendedLinearAddress u) page) (joined_lines rs page), ended_length (ExtendedLinearAddress u) page)

-- ---- type 04 records: one at first, and one for each multiple of 65,536

-- how many multiples of 65,536 lie below an address
abbrev multiples : ℕ → ℕ
multiples address = (address + 65535) / 65536

-- `b` of the type 04 records that there can be need not be counted any more: those of the multiples below the address, or of all up to the latest
abbrev Past : Option ℕ → (b address : ℕ) → Type 0
Past none b address = b ≤ multiples address
Past (some u) b address = (b ≡ u + 2) × (u < multiples address)

past_most : (latest : Option ℕ) (b x : ℕ) → Past latest b x → b ≤ multiples x + 1
past_most none b x t = omega arith
past_most (some u) b x t = omega arith

past_later : (latest : Option ℕ) (b x y : ℕ) → x ≤ y → Past latest b x → Past latest b y
past_later none b x y h t = omega arith
past_later (some u) b x y h (e, l) = (e, omega arith)

-- where the upper bits change, they rise
past_other : (latest : Option ℕ) (b x : ℕ) → Past latest b (suc x) → latest ≢ some (x / 65536) → b ≤ x / 65536 + 1
past_other none b x t n = omega arith
past_other (some v) b x (e, h) n = let k : v ≢ x / 65536 = λ q. n (cc) in omega arith

-- ---- all pieces

-- the address of the next place, or the one behind the first place of the piece that is begun
abbrev reached : (first place : ℕ) → Option Piece → ℕ
reached first place none = first + place
reached first place (some p) = suc (first + p.place)

abbrev begun_size : Option Piece → ℕ
begun_size none = 0
begun_size (some p) = p.size

module _ (first : ℕ) (page : List ℕ) where
  -- a piece, with the type 04 record that it may need
  one_piece : (latest : Option ℕ) (b : ℕ) (p : Piece) (ps : List Piece) → Past latest b (suc (first + p.place))
      → long first page latest (p ∷ ps) + 16 * b ≤ 12 + 2 * p.size + 16 * (upper first p + 2) + long first page (some (upper first p)) ps
  unfolding records
  one_piece latest b p ps t =
      let u = upper first p in
      let rs = records first (some u) ps in
      let h = data_long first page p rs in
      by_latest (λ l. length (joined_lines (l ++ (data_of first p ∷ rs)) page) + 16 * b ≤ 12 + 2 * p.size + 16 * (u + 2) + length (joined_lines rs page)) latest u
      (λ e. let k = (rw e at t).0 in omega arith)
      (λ n. omega (arith, past_other latest b (first + p.place) t n, extension_long first page u (data_of first p ∷ rs)))

  -- seven bytes for each place, 23 for each multiple of 65,536, and 35 more: seven, the first type 04 record and the end
  most : {place : ℕ} {o : Option Piece} {marks : List ℕ} {ps : List Piece} (latest : Option ℕ) (b : ℕ)
      → Made first place o marks ps → Stands first place o → Past latest b (reached first place o)
      → long first page latest ps + 7 * multiples (first + place) + 16 * b ≤ 7 * begun_size o + 7 * length marks + 35 + 23 * multiples (first + (place + length marks))
  most latest b (nothing_left {place}) s t = omega (arith, end_long first page latest, past_most latest b (first + place) t)
  most latest b (last {place} {p}) s t =
      let h : upper first p < multiples (first + place) = omega (arith, s.0.least) in
      omega (arith, s.0.least, one_piece latest b p [] t, end_long first page (some (upper first p)))
  most latest b (skipped {place} n d) s t = omega (arith, most latest b d tt (past_later latest b (first + place) (first + suc place) (omega arith) t))
  most latest b (started {place} e d) s t =
      omega (arith, most latest b d (fresh_stands first place) (past_later latest b (first + place) (suc (first + place)) (omega arith) t))
  most latest b (ended {place} {m} {p} {marks} {ps} n d) s t =
      omega (arith, s.0.least, one_piece latest b p ps t, most (some (upper first p)) (upper first p + 2) d tt (refl, omega arith))
  most latest b (cut {place} {m} {p} {marks} {ps} e c d) s t =
      let h = most (some (upper first p)) (upper first p + 2) d (fresh_stands first place) (refl, omega arith) in
      let k = one_piece latest b p ps t in
      elim c [ inl f ↦ omega arith | inr f ↦ omega (arith, s.0.least) ]
  most latest b (grown {place} {m} {p} e n k d) s t = omega (arith, most latest b d (grown_stands first place p n k s) t)

pub room_enough : RoomEnough
unfolding file
room_enough first page marks w = omega (arith, most first page none (multiples first) (made first 0 none (flags (length page) marks)) tt (omega arith), flags_length (length page) marks)
