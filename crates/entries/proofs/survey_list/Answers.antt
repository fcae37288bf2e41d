-- `entries::survey_list` meets its contract: each entry adds its record, and one that is no record leaves no list.
-- Assumes nothing.
use Rattle.std.proofs.Common.{[], ◌∷◌, ◌+◌, ◌++◌, refl, sym, ap, ◌∙◌}
use Rattle.std.specs.Slice.Iter.{chunks_exact_rest, chunks_exact_size}
use Rattle.writer.specs.Claims.{at_first, then_add}
use Rattle.entries.proofs.Listing.{uneven, passed_none, passed_more, passed_all, passed_bad, entry_inside, entry_record, behind_next, behind_none}
use Rattle.entries.proofs.survey_list.Goals as goal

pub returns-then-list-ne0 : goal.returns-then-list-ne0
returns-then-list-ne0 c = uneven c.args.list.now c.if-list-ne0.true

pub loop-entry-init : goal.loop-entry-init
loop-entry-init c =
    let it = c.chunks_exact-entry-items in
    let same = c.into_iter-entry-iterator.ensures.into_iter_gives in
    record {
      place = 0;
      behind = record { left = ap chunks_exact_rest same ∙ it.ensures.rest; size = ap chunks_exact_size same ∙ it.ensures.size };
      rs = [];
      passed = passed_none c.args.list.now c.if-list-ne0.false;
      surveys = at_first c.new-survey.ensures;
    }

pub returns-in_err-record_in : goal.returns-in_err-record_in
returns-in_err-record_in c =
    let l = c.loop-entry.invariant in
    let turn = c.in-Some.ensures.steps in
    rw c.from_residual.ensures
    (passed_bad c.args.list.now l.place l.rs l.passed (entry_inside l.behind c.in-Some.entry c.next.new.self turn)
    (sym (entry_record l.behind c.in-Some.entry c.next.new.self turn) ∙ sym c.in_err-record_in.ensures))

pub loop-entry-preserved : goal.loop-entry-preserved
loop-entry-preserved c =
    let l = c.loop-entry.invariant in
    let turn = c.in-Some.ensures.steps in
    record {
      place = l.place + 24;
      behind = behind_next l.behind c.in-Some.entry c.next.new.self turn;
      rs = l.rs ++ (c.in_ok-record_in.field-0 ∷ []);
      passed =
          passed_more c.args.list.now l.place l.rs c.in_ok-record_in.field-0 l.passed (entry_inside l.behind c.in-Some.entry c.next.new.self turn)
          (sym (entry_record l.behind c.in-Some.entry c.next.new.self turn) ∙ sym c.in_ok-record_in.ensures);
      surveys = then_add l.surveys c.add-survey.ensures refl;
    }

pub returns : goal.returns
returns c =
    let l = c.loop-entry.invariant in
    record {
      listed = record { records = l.rs; read = passed_all c.args.list.now l.place l.rs l.passed (behind_none l.behind l.passed c.in-None.ensures.steps.1.0) };
      surveys = l.surveys;
    }
