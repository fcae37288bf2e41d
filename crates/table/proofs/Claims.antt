-- What is claimed of a load through a table in bytes.
-- Assumes nothing.
use mathlib.Core.Path.{◌≡◌, refl, sym, ◌∙◌}
use mathlib.Core.Logic.{inl, inr}
use Prim.Native.Nat.{ℕ, ◌%◌}
use mathlib.Core.Bool.{Bool, true, false, not}
use mathlib.Core.List.{List}
use lib.Dec.{eqb}
use lib.ListN.{length}
use native.Mathlib.Omega.{arith}
use borrow.Author.Tests.{eq-eqb, ne_eqb, eqb-true, eqb-false, not-true}
use Rattle.digits.proofs.Tests.{or_true}
use Rattle.steps.proofs.Told.{told_apart}
use Rattle.window.specs.declared.Row.{Row}
use Rattle.window.specs.Table.{fits, IsOwner}
use Rattle.window.specs.Tables.{AlikeFor}
use Rattle.window.proofs.Table.{refused_exactly}
use Rattle.window.proofs.Tables.{table_non_interference}
use Rattle.entries.specs.Entry.{rows_of}
use Rattle.table.specs.Load.{torn, load_bytes}
use Rattle.table.specs.Claims.{BadBytes, WholeTableLoads, TornTableRefused, BytesNonInterference, BadForBoth, IsBadUnique, LoadUnique, LoadSrecordsUnique}

pub whole_table_loads : WholeTableLoads
unfolding load_bytes
whole_table_loads S src text owner table pool marks e = rw (eq-eqb (length table % 24) 0 e)

pub torn_table_refused : TornTableRefused
unfolding load_bytes
torn_table_refused S src text owner table pool marks n = rw (ne_eqb (length table % 24) 0 n)

pub bytes_non_interference : BytesNonInterference
bytes_non_interference S src owner table text₁ text₂ pool₁ marks₁ pool₂ marks₂ lp lm line v e head t₁ t₂ = go (eqb (length table % 24) 0) refl
  where
    go : (b : Bool) → eqb (length table % 24) 0 ≡ b
        → AlikeFor owner (rows_of table) (length pool₁) (load_bytes src text₁ owner table pool₁ marks₁) (load_bytes src text₂ owner table pool₂ marks₂)
    go true q =
        let w = eqb-true (length table % 24) 0 q in
        rw (whole_table_loads S src text₁ owner table pool₁ marks₁ w, whole_table_loads S src text₂ owner table pool₂ marks₂ w)
        (table_non_interference S src owner (rows_of table) text₁ text₂ pool₁ marks₁ pool₂ marks₂ lp lm line v e head t₁ t₂)
    go false q =
        let n = eqb-false (length table % 24) 0 q in
        rw (torn_table_refused S src text₁ owner table pool₁ marks₁ n, torn_table_refused S src text₂ owner table pool₂ marks₂ n) (record {
          answers = refl;
          marks = λ t a i h s. let z : ◌≡◌ {A = ℕ} 0 1 = cc in absurd (omega arith);
          bytes = λ t a i h s m. let z : ◌≡◌ {A = ℕ} 0 1 = cc in absurd (omega arith);
        })

-- an owner more or less: whether a table is good does not depend on which owner calls
owner_apart : (owner pool marks : ℕ) (rows : List Row) → IsOwner owner → fits 1 pool marks rows ≡ fits owner pool marks rows
unfolding fits
owner_apart owner pool marks rows (inl e) = rw e
owner_apart owner pool marks rows (inr e) = rw e

pub bad_for_both : BadForBoth
bad_for_both table pool marks r x owner o = (forth (eqb (length table % 24) 0) refl, back)
  where
    forth : (b : Bool) → eqb (length table % 24) 0 ≡ b → r ≡ true → BadBytes owner table pool marks
    forth false e t = inl (eqb-false (length table % 24) 0 e)
    forth true e t =
        let q : not (fits 1 pool marks (rows_of table)) ≡ true = sym (rw e at x.answer) ∙ t in
        inr ((refused_exactly owner pool marks (rows_of table)).0 (sym (owner_apart owner pool marks (rows_of table) o) ∙ not-true (fits 1 pool marks (rows_of table)) q))

    back : BadBytes owner table pool marks → r ≡ true
    back (inl n) = x.answer ∙ rw (ne_eqb (length table % 24) 0 n)
    back (inr b) =
        let f : fits 1 pool marks (rows_of table) ≡ false = owner_apart owner pool marks (rows_of table) o ∙ (refused_exactly owner pool marks (rows_of table)).1 b in
        x.answer ∙ rw f (or_true (torn table))

pub is_bad_unique : IsBadUnique
is_bad_unique table pool marks r r' x y = x.answer ∙ sym y.answer

pub load_unique : LoadUnique
load_unique text owner table pool marks r r' p p' m m' x y = (told_apart r r' (x.answer ∙ sym y.answer), x.pool ∙ sym y.pool, x.marks ∙ sym y.marks)

pub load_srecords_unique : LoadSrecordsUnique
load_srecords_unique text owner table pool marks r r' p p' m m' x y = (told_apart r r' (x.answer ∙ sym y.answer), x.pool ∙ sym y.pool, x.marks ∙ sym y.marks)
