-- `entries::write_each` meets its contract: each entry is a record, and its step is made.
-- Assumes nothing.
use Rattle.std.proofs.Common.{[], ◌∷◌, ◌+◌, ◌++◌, refl, sym, ap, ◌∙◌}
use Rattle.std.specs.Slice.Iter.{chunks_exact_rest, chunks_exact_size}
use Rattle.writer.specs.Claims.{no_step, then_step}
use Rattle.entries.specs.Entry.{entry_of}
use Rattle.entries.proofs.Listing.{listed_even, passed_none, passed_more, passed_good, there, entry_inside, entry_record, behind_next, stepping_end}
use Rattle.entries.proofs.write_each.Goals as goal

pub loop-entry-init : goal.loop-entry-init
loop-entry-init c =
    let it = c.chunks_exact-entry-items in
    let same = c.into_iter-entry-iterator.ensures.into_iter_gives in
    record {
      place = 0;
      behind = record { left = ap chunks_exact_rest same ∙ it.ensures.rest; size = ap chunks_exact_size same ∙ it.ensures.size };
      rs = [];
      passed = passed_none c.args.list.now (listed_even c.args.list.now c.requires.records c.requires.read);
      steps = no_step;
      same = refl;
    }

pub unwrap-requires : goal.unwrap-requires
unwrap-requires c =
    let l = c.loop-entry.invariant in
    let turn = c.in-Some.ensures.steps in
    let here = entry_inside l.behind c.in-Some.entry c.next.new.self turn in
    let good = passed_good c.args.list.now l.place l.rs c.requires.records l.passed here c.requires.read in
    there c.record_in.result good.0 (c.record_in.ensures ∙ entry_record l.behind c.in-Some.entry c.next.new.self turn ∙ good.1)

pub loop-entry-preserved : goal.loop-entry-preserved
loop-entry-preserved c =
    let l = c.loop-entry.invariant in
    let turn = c.in-Some.ensures.steps in
    let here = entry_inside l.behind c.in-Some.entry c.next.new.self turn in
    let step = c.write_next-done in
    record {
      place = l.place + 24;
      behind = behind_next l.behind c.in-Some.entry c.next.new.self turn;
      rs = l.rs ++ (c.unwrap.result ∷ []);
      passed =
          passed_more c.args.list.now l.place l.rs c.unwrap.result l.passed here
          (sym (entry_record l.behind c.in-Some.entry c.next.new.self turn) ∙ sym c.record_in.ensures ∙ ap entry_of c.unwrap.ensures);
      steps = then_step c.unwrap.result step.new.out l.steps step.ensures refl;
      same = step.auto.out ∙ l.same;
    }

pub returns : goal.returns
returns c =
    let s = c.args in
    let l = c.loop-entry in
    stepping_end s.list.now s.pool.now s.out.now s.start l.out l.done l.entry-iterator l.invariant c.in-None.ensures.steps.1.0
