-- The survey says whether both have room, and then all is written.
use Rattle.salvage.proofs.Told.{by_full, by_short, by_all}
use Rattle.salvage.proofs.salvage.Goals as goal

pub returns-in_default : goal.returns-in_default
returns-in_default c =
    let a = c.args in
    let v = c.survey-spare in
    by_full a.text.now a.out.now a.list.now v.result v.ensures c.in_default.is

pub returns-in_default-places : goal.returns-in_default-places
returns-in_default-places c =
    let a = c.args in
    let v = c.survey-spare in
    by_short a.text.now a.out.now a.list.now v.result v.ensures _ c.in-Some.is c.in_default-places.is

pub returns : goal.returns
returns c =
    let a = c.args in
    let v = c.survey-spare in
    let w = c.write_all in
    by_all a.text.now a.out.now a.list.now v.result v.ensures _ c.in-Some.is _ c.in-Some-places.is w.new.out w.new.list w.auto.out w.ensures
