-- `table::rows_of` meets its contract: window by window.
-- Assumes nothing.
use Rattle.std.proofs.Common.{◌≡◌, ℕ, zero, suc, ◌+◌, ◌<◌, ◌≤◌, List, get_or, ◌∙◌, arith, rules, tests}
use Rattle.std.specs.Array.{IsFromFnResultFrom}
use Rattle.std.specs.Fn.{Called}
use denote.Param.Members.{Mut}
use Rattle.digits.proofs.Tests.{split}
use Rattle.window.specs.Table.{nobody}
use Rattle.entries.specs.Entry.{row_at}
use Rattle.table.proofs.rows_of.Goals as goal

-- an array whose elements were made one by one, by calls that change nothing, holds at each place what the call for it gave
made : {F B : Type 0} (g : Mut F (ℕ × Unit {0}) B) (f : F) (h : ℕ → B) (ys : List B) (d : B)
    → ((i : ℕ) (y : B) (q : F) → Called g f (i, tt) y q → (q ≡ f) × (y ≡ h i))
    → (n i : ℕ) → IsFromFnResultFrom g f ys i n → (k : ℕ) → i ≤ k → k < i + n → get_or ys k d ≡ h k
made g f h ys d says zero i m k l u = absurd (omega arith)
made g f h ys d says (suc n) i (q, y, e, called, m) k l u =
    let (same, is) = says i y q called in
    split (suc i) k (λ v. made g f h ys d says n (i + 1) (rw same at m) k (omega arith) (omega arith)) (λ v. let k-is : k ≡ i = omega arith in rw k-is (e.1 d ∙ is))

pub returns : goal.returns
returns c =
    let items = c.from_fn.ensures.items in
    record {
      as_many = items.long;
      each = λ i h. made _ _ (row_at c.args.table.now) c.from_fn.result nobody (λ i y q k. search (rules, tests)) 16 0 items.each i (omega arith) h;
    }
