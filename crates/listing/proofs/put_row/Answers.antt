use Rattle.std.proofs.Common.{◌+◌, ◌-◌, ◌<◌, ◌∷◌, [], inl, inr, ap, length, length-append, rules, arith}
use Rattle.listing.specs.Writing.{Mark, row_turn}
use Rattle.listing.proofs.put_row.Goals as goal
use Rattle.listing.proofs.put_row.Goals.{then-i-fields, else-i-fields}

pub loop-i-preserved : goal.loop-i-preserved
loop-i-preserved c =
    let mark : Mark (length c.args.fields.now - (c.loop-i.i + 1)) c.if-i-fields.push =
    elim c.if-i-fields.branch [ then-i-fields w ↦ inl (omega arith, w.push-is) | else-i-fields w ↦ inr (omega arith, w.push-is) ]
    in
    let ascii : c.if-i-fields.push < 128 = elim c.if-i-fields.branch [ then-i-fields w ↦ omega arith | else-i-fields w ↦ omega arith ] in
    let e = c.push.ensures.ascii ascii in
    record {
      bytes = row_turn _ _ _ _ _ _ _ _ (search rules) (search rules) c.format.ensures.text c.push_str.ensures.bytes e mark c.loop-i.invariant.bytes;
      room = omega (arith, ap length e, c.push_str.ensures.len, c.format.ensures.fits, length-append c.push_str.new.self.bytes (c.if-i-fields.push ∷ []));
    }
