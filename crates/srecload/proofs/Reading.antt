-- What a call of the record reader tells a load, which lends it a pool with room for every record: what the line says.
-- Assumes nothing.
use Rattle.std.proofs.Common.{◌≡◌, ℕ, ◌+◌, ◌≤◌, Bool, true, false, ◌||◌, eqb, ltb, List, [], ◌∷◌, length, take, drop, sym, refl, ap, ◌∙◌, subst, arith, length-append, length-drop, take_at, eqb-true, le-leb}
use Rattle.digits.specs.Common.{pasted}
use Rattle.std.specs.Prelude.{if◌then◌else◌}
use Rattle.record.specs.Refusals.{pool_full}
use Rattle.record.specs.Line.{Said, says, wrong}
use Rattle.reader.specs.declared.ReaderError.{ReaderError}
use Rattle.reader.specs.Told.{gives, refuses, refusal_of}
use Rattle.reader.specs.Answer.{fits_pool}
use Rattle.srec.specs.declared.SRecord.{SRecord}
use Rattle.srec.specs.Line.{judge}
use Rattle.srec.specs.Types.{fits}
use Rattle.srec.specs.Record.{digit_of, data_of}
use Rattle.srec.specs.Answer.{answered, poured, ReadSRecord}
use Rattle.srec.proofs.Naming.{width_few}
use Rattle.srec.proofs.Writing.{said_is_writable}
use Rattle.std.specs.Prelude.{Err, Ok}

-- a record that was read: the line says its type and address, with the data that the pool holds then
pub record Came (line pool' : List ℕ) (x : SRecord) : Type 0 where
  pub said : judge line ≡ says (digit_of x.kind) x.address (data_of x pool')
  pub sized : length (data_of x pool') ≡ x.len
  pub lies : x.at + x.len ≤ length pool'
  pub few : x.len ≤ 252

no_bytes : (l : List ℕ) → length l ≡ 0 → l ≡ []
no_bytes [] e = refl
no_bytes (c ∷ l) e = absurd (omega arith)

-- a line that says a record says at most 252 bytes
short : (line : List ℕ) (kind address : ℕ) (payload : List ℕ) → judge line ≡ says kind address payload → length payload ≤ 252
short line kind address payload e = let w = said_is_writable line kind address payload e in omega (arith, w.most, width_few kind)

none_beside : (kind n : ℕ) → ltb kind 4 ≡ false → fits kind n ≡ true → n ≡ 0
none_beside kind n h f = eqb-true n 0 (subst (λ (b : Bool). b || eqb n 0 ≡ true) h f)

pasted_front : (pool bytes : List ℕ) → take (length bytes) (drop 0 (pasted pool 0 bytes)) ≡ bytes
pasted_front pool bytes = take_at bytes (drop (0 + length bytes) pool) (length bytes) refl

module _ (line pool pool' : List ℕ) (room : length pool ≡ 252) where
  -- what the answer tells of a record says which record it is, and what the pool holds of it
  data_came : (x : SRecord) (kind address : ℕ) (payload : List ℕ) → judge line ≡ says kind address payload → length payload ≤ 252
      → gives (digit_of x.kind) (x.address ∷ x.at ∷ x.len ∷ []) ≡ gives kind (address ∷ 0 ∷ length payload ∷ []) → pool' ≡ pasted pool 0 payload → Came line pool' x
  data_came x kind address payload e s t p =
      let k : digit_of x.kind ≡ kind = cc in
      let a : x.address ≡ address = cc in
      let at_0 : x.at ≡ 0 = cc in
      let l : x.len ≡ length payload = cc in
      let d : data_of x pool' ≡ payload = rw (at_0, l, p) (pasted_front pool payload) in
      record {
        said = e ∙ rw (k, a, d);
        sized = ap length d ∙ sym l;
        lies = rw (at_0, l, p) (omega (arith, length_pasted pool payload (omega arith)));
        few = omega arith;
      }
    where
      length_pasted : (pool bytes : List ℕ) → length bytes ≤ length pool → length (pasted pool 0 bytes) ≡ length pool
      length_pasted pool bytes h = length-append bytes (drop (0 + length bytes) pool) ∙ omega (arith, length-drop (0 + length bytes) pool)

  other_came : (x : SRecord) (kind address : ℕ) (payload : List ℕ) → judge line ≡ says kind address payload → length payload ≡ 0
      → gives (digit_of x.kind) (x.address ∷ x.at ∷ x.len ∷ []) ≡ gives kind (address ∷ 0 ∷ 0 ∷ []) → Came line pool' x
  other_came x kind address payload e z t =
      let k : digit_of x.kind ≡ kind = cc in
      let a : x.address ≡ address = cc in
      let at_0 : x.at ≡ 0 = cc in
      let l : x.len ≡ 0 = cc in
      let d : data_of x pool' ≡ [] = rw l in
      record { said = e ∙ rw (k, a, d, no_bytes payload z); sized = ap length d ∙ sym l; lies = rw (at_0, l) (omega arith); few = omega arith }

  pub came_read : (x : SRecord) → ReadSRecord line pool 0 (Ok x) pool' → Came line pool' x
  unfolding answered poured
  came_read x h = go (judge line) refl h.answer h.left
    where
      go : (said : Said) → judge line ≡ said → gives (digit_of x.kind) (x.address ∷ x.at ∷ x.len ∷ []) ≡ answered said (length pool) 0 → pool' ≡ poured said pool 0 → Came line pool' x
      go (wrong r) e t p = let z : ◌≡◌ {A = ℕ} 0 1 = cc in absurd (omega arith)
      go (says kind address payload) e t p = by_kind (ltb kind 4) refl t p
        where
          s : length payload ≤ 252
          s = short line kind address payload e

          fit : fits_pool (length pool) 0 payload ≡ true
          fit = le-leb (0 + length payload) (length pool) (omega (arith, s))

          by_kind : (b : Bool) → ltb kind 4 ≡ b
              → gives (digit_of x.kind) (x.address ∷ x.at ∷ x.len ∷ [])
              ≡ (if b then (if fits_pool (length pool) 0 payload then gives kind (address ∷ 0 ∷ length payload ∷ []) else refuses pool_full) else gives kind (address ∷ 0 ∷ 0 ∷ []))
              → pool' ≡ (if b then (if fits_pool (length pool) 0 payload then pasted pool 0 payload else pool) else pool) → Came line pool' x
          by_kind true q t p = data_came x kind address payload e s (rw fit at t) (rw fit at p)
          by_kind false q t p =
              other_came x kind address payload e (none_beside kind (length payload) q (said_is_writable line kind address payload e).sized) t

  pub came_refused : (e : ReaderError) → ReadSRecord line pool 0 (Err e) pool' → judge line ≡ wrong (refusal_of e)
  unfolding answered
  came_refused e h = go (judge line) refl h.answer
    where
      go : (said : Said) → judge line ≡ said → refuses (refusal_of e) ≡ answered said (length pool) 0 → judge line ≡ wrong (refusal_of e)
      go (wrong r) q t = let z : refusal_of e ≡ r = cc in q ∙ ap wrong (sym z)
      go (says kind address payload) q t = by_kind (ltb kind 4) t
        where
          fit : fits_pool (length pool) 0 payload ≡ true
          fit = le-leb (0 + length payload) (length pool) (omega (arith, short line kind address payload q))

          by_kind : (b : Bool)
              → refuses (refusal_of e)
              ≡ (if b then (if fits_pool (length pool) 0 payload then gives kind (address ∷ 0 ∷ length payload ∷ []) else refuses pool_full) else gives kind (address ∷ 0 ∷ 0 ∷ []))
              → judge line ≡ wrong (refusal_of e)
          by_kind true t = let u : refuses (refusal_of e) ≡ gives kind (address ∷ 0 ∷ length payload ∷ []) = rw fit at t in cc
          by_kind false t = cc
