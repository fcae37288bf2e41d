-- One line of Intel HEX taken into a window: a record, a line, and that nothing else meets the contract.
-- Assumes nothing.
use Rattle.std.proofs.Common.{◌≡◌, ℕ, ◌+◌, ◌-◌, ◌*◌, ◌<◌, ◌≤◌, min, Bool, true, false, List, [], length, take, drop, sym, refl, ap, ◌∙◌, true≢false, arith}
use Rattle.digits.proofs.Parts.{part_is, part_length}
use Rattle.record.specs.Line.{wrong, judge}
use Rattle.record.specs.Record.{meant}
use Rattle.record.specs.declared.Record.{Record}
use Rattle.record.specs.declared.Record.TheVariants.{Data}
use Rattle.reader.specs.declared.ReaderError.{ReaderError}
use Rattle.reader.specs.Told.{refusal_of}
use Rattle.steps.specs.Steps.{Placement, accepted, turn}
use Rattle.steps.specs.Taken.{Standing, acted, at_line}
use Rattle.steps.specs.Told.{tallied, told_loading}
use Rattle.steps.specs.declared.LoaderError.TheVariants.{Line, BadWindow}
use Rattle.steps.specs.declared.Tally.{Tally as CodeTally}
use Rattle.steps.proofs.Told.{told_apart}
use Rattle.window.specs.Promises.{Painted, PutInside, OneWindow}
use Rattle.window.specs.Window.{within, window}
use Rattle.window.specs.declared.Row.{Row}
use Rattle.window.specs.Table.{site_of, inside_of}
use Rattle.window.specs.Taking.{closed}
use Rattle.window.proofs.Loads.{painted_nothing}
use Rattle.window.proofs.Alone.{inside_is, alone_painted}
use Rattle.window.proofs.Spread.{Runs}
use Rattle.window.proofs.Whole.{whole_inside, whole_stored}
use Rattle.window.proofs.Taking.{take_closed, take_open, take_once}
use Rattle.intel.specs.Placing.{Base, byte_address, act, base_after, intel_by, intel}
use Rattle.intel.specs.Records.{LiesIn}
use Rattle.intel.proofs.Calls.{ReadAs, short_record}
use Rattle.loader.specs.declared.Base.{Base as CodeBase}
use Rattle.loader.specs.declared.Base.TheVariants.{Segment, Linear}
use Rattle.loader.specs.declared.Taken.{Taken}
use Rattle.loader.specs.declared.Taken.TheVariants.{On, Stop}
use Rattle.loader.specs.Helpers.{based, told_taken, states, Met, TookRecord, PutWhole}
use Rattle.loader.specs.Taking.{TakeLine}
use Rattle.loader.specs.Claims.{TakeLineUnique}
use Rattle.loader.proofs.Meeting.{behind_data, met_inside, painted_data}
use Rattle.loader.proofs.Runs.{runs}
use Rattle.std.specs.Prelude.{Ok}
use Rattle.steps.specs.Aliases.{refuse}

-- ---- a record

module _ (n : ℕ) (base : CodeBase) (tally : CodeTally) (x : Record) (pool : List ℕ) (first : ℕ) where
  -- judged and written through the window as a table of its own, upon a page and marks that were left as they were
  pub took_by_table : (page marks page₁ marks₁ : List ℕ) → (page₁ ≡ page) × (marks₁ ≡ marks) → (rows : List Row) → OneWindow first (length page₁) rows → (t : Taken)
      → Met (inside_of 1 rows) n base tally (meant x pool) t → (page' marks' : List ℕ)
      → Painted (site_of 1 rows) (states (based base) (meant x pool) t) page₁ marks₁ page' marks'
      → TookRecord n base tally x pool first page marks t page' marks'
  took_by_table page marks page₁ marks₁ (e, f) rows one t m page' marks' p =
      let m₁ = rw (one.answer, inside_is first (length page₁)) at m in
      let p₁ = rw one.answer at p in
      rw (← e, ← f) (record { met = m₁; paints = alone_painted first (length page₁) (states (based base) (meant x pool) t) page₁ marks₁ page' marks' p₁ })

-- ---- a data record stored at once

module _ (base : CodeBase) (x : Record) (pool : List ℕ) (first : ℕ) (page marks : List ℕ) where
  pub not_put : PutWhole base x pool first page marks false page marks
  not_put = record { took = λ t. absurd (true≢false (sym t)); kept = λ f. (refl, refl) }

  module _ (lies : LiesIn x pool) (offset at len : ℕ) (e : x ≡ Data offset at len) (o : offset < 65536) (k : ℕ) (is-k : k ≡ min len (65536 - offset)) (all : len ≤ k)
      (a : ℕ) (is_a : a ≡ byte_address (based base) offset 0) where
    abbrev bytes : List ℕ
    bytes = take (at + len - at) (drop at pool)

    inside : at + len ≤ length pool
    inside = let l : LiesIn (Data offset at len) pool = rw e at lies in l.0

    many : length bytes ≡ len
    many = ap length (part_is pool at len) ∙ part_length pool at len inside

    in_one : Runs (byte_address (based base) offset) (length bytes) (length bytes)
    in_one =
        let s : len ≤ 255 = rw e at (short_record x pool lies) in
        let h : k ≡ len = omega arith in
        rw (many, ← h) (rw (← h) at (runs base offset len o s k is-k))

    pub put_data : (r : Bool) (page' marks' : List ℕ) → PutInside first a bytes page marks r page' marks' → PutWhole base x pool first page marks r page' marks'
    put_data r page' marks' p =
        record {
          took = λ t n tally. record {
            met = met_inside (within first (length page)) n base tally x pool lies offset at len e
                (rw many at (whole_inside (byte_address (based base) offset) first a is_a bytes page marks in_one r page' marks' p t)) base (behind_data base x offset at len e);
            paints = painted_data (window first (length page)) (based base) x pool page marks offset at len page' marks' e
                (whole_stored (byte_address (based base) offset) first a is_a bytes page marks in_one r page' marks' p t);
          };
          kept = p.kept;
        }

-- ---- a line

module _ (line : List ℕ) (n : ℕ) (base : CodeBase) (tally : CodeTally) (first : ℕ) (page marks : List ℕ) where
  abbrev Takes : Taken → (page' marks' : List ℕ) → Type 0
  Takes r page' marks' = TakeLine line n base tally first page marks r page' marks'

  pub none_taken : closed tally.records first (length page) (length marks) ≡ true → Takes (Stop (refuse BadWindow 0)) page marks
  none_taken c = take_closed intel told_taken (Stop (refuse BadWindow 0)) n (based base) (tallied tally) line first page marks c

  module _ (not_closed : closed tally.records first (length page) (length marks) ≡ false) where
    taken : (r : Taken) (ps : List Placement) (page' marks' : List ℕ)
        → at_line intel (within first (length page)) n (record { state = based base; tally = tallied tally; stated = [] }) line ≡ told_taken r ps
        → Painted (window first (length page)) ps page marks page' marks' → Takes r page' marks'
    taken r ps page' marks' e p = take_open intel told_taken (Stop (refuse BadWindow 0)) n (based base) (tallied tally) line first page marks not_closed r ps page' marks' e p

    -- a line that is refused
    pub taken_refused : (e : ReaderError) → judge line ≡ wrong (refusal_of e) → Takes (Stop (refuse (Line e) n)) page marks
    unfolding at_line acted turn intel_by act base_after
    taken_refused e j = taken (Stop (refuse (Line e) n)) [] page marks (rw j) (painted_nothing _ page marks)

    -- a record that was taken
    pub taken_read : (pool : List ℕ) (x : Record) → ReadAs line pool x → (r : Taken) (page' marks' : List ℕ)
        → TookRecord n base tally x pool first page marks r page' marks' → Takes r page' marks'
    unfolding at_line intel_by act base_after
    taken_read pool x said r page' marks' t = taken r (states (based base) (meant x pool) r) page' marks' (rw (said.is_said, ← said.means) t.met.comes_to) t.paints

-- ---- what is told says which answer it was, and what was stated

pub based_once : (b b' : CodeBase) → based b ≡ based b' → b ≡ b'
based_once (Segment k) (Segment k') e = let h : 16 * k ≡ 16 * k' = cc in ap Segment (omega arith)
based_once (Segment k) (Linear k') e = let z : ◌≡◌ {A = ℕ} 0 1 = cc in absurd (omega arith)
based_once (Linear k) (Segment k') e = let z : ◌≡◌ {A = ℕ} 0 1 = cc in absurd (omega arith)
based_once (Linear k) (Linear k') e = let h : 65536 * k ≡ 65536 * k' = cc in ap Linear (omega arith)

pub tallied_once : (t t' : CodeTally) → tallied t ≡ tallied t' → t ≡ t'
tallied_once t t' e = let h : Ok t ≡ Ok t' = told_apart (Ok t) (Ok t') (ap accepted e) in cc

told_once : (r r' : Taken) (ps ps' : List Placement) → told_taken r ps ≡ told_taken r' ps' → (r ≡ r') × (ps ≡ ps')
told_once (On b t) (On b' t') ps ps' e =
    let q : ◌≡◌ {A = Standing Base} (record { state = based b; tally = tallied t; stated = ps }) (record { state = based b'; tally = tallied t'; stated = ps' }) = cc in
    let b_is = based_once b b' (ap (λ (x : Standing Base). x.state) q) in
    let t_is = tallied_once t t' (ap (λ (x : Standing Base). x.tally) q) in
    (cc, ap (λ (x : Standing Base). x.stated) q)
told_once (On b t) (Stop l) ps ps' e = let z : ◌≡◌ {A = ℕ} 0 1 = cc in absurd (omega arith)
told_once (Stop l) (On b t) ps ps' e = let z : ◌≡◌ {A = ℕ} 0 1 = cc in absurd (omega arith)
told_once (Stop l) (Stop l') ps ps' e = let v : told_loading l ≡ told_loading l' = cc in (ap Stop (told_apart l l' v), cc)

pub take_line_unique : TakeLineUnique
take_line_unique line n base tally first page marks r r' p p' m m' b x y =
    take_once intel told_taken _ n (based base) (tallied tally) line first page marks told_once r r' p p' m m' b x y
