-- `listing::put_bytes` meets its contract: each turn puts a byte behind those before it.
-- Assumes nothing.
use Rattle.std.proofs.Common.{refl, ◌∙◌, arith}
use Rattle.digits.specs.Spelling.{spelt}
use Rattle.listing.proofs.Putting.{put_none, bytes_more, bytes_place}
use Rattle.listing.proofs.put_bytes.Goals as goal

pub loop-b-init : goal.loop-b-init
unfolding spelt
loop-b-init c = record { size = refl; puts = put_none c.args.out.now c.args.at }

pub put_byte-place-requires : goal.put_byte-place-requires
put_byte-place-requires c =
    let a = c.args in
    let t = c.loop-b in
    omega (arith, bytes_place a.out.now a.at a.s.now t.b-index t.place t.out (omega arith) t.invariant.puts)

pub loop-b-preserved : goal.loop-b-preserved
loop-b-preserved c =
    let a = c.args in
    let t = c.loop-b in
    let p = c.put_byte-place in
    record {
      size = p.auto.out ∙ t.invariant.size;
      puts = bytes_more a.out.now a.at a.s.now t.b-index t.place p.result t.out p.new.out (omega arith) (omega arith) t.invariant.puts p.ensures;
    }
