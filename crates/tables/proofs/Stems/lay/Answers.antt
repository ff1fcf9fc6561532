use Rattle.std.proofs.Common.{sym, ◌∙◌, refl, length-take-le, arith}
use Rattle.tables.specs.Writing.{laid}
use Rattle.tables.proofs.Stems.lay.Goals as goal

pub slice_bounds-copy_from_slice-end-2 : goal.slice_bounds-copy_from_slice-end-2
slice_bounds-copy_from_slice-end-2 c = sym (length-take-le 1024 c.args.tables.now (omega arith))

pub copy_from_slice-requires : goal.copy_from_slice-requires
copy_from_slice-requires c = length-take-le 1024 c.args.tables.now (omega arith) ∙ sym c.told-cells

pub returns : goal.returns
returns c = laid _ _ _ _ _ _ _ _ c.requires c.told-cells c.copy_from_slice.ensures.after refl c.write_breaks.ensures
