-- `lookups::key_of` meets its contract: the front is copied.
use Rattle.std.proofs.Common.{sym, refl}
use lib.Seq.{length-take-le}
use Rattle.lookups.proofs.Keys.{front_fits, carried}
use Rattle.lookups.proofs.key_of.Goals as goal

pub slice_bounds-bytes-end : goal.slice_bounds-bytes-end
slice_bounds-bytes-end c = front_fits c.args.text.now _ c.part-front.ensures

pub slice_bounds-copy_from_slice-end : goal.slice_bounds-copy_from_slice-end
slice_bounds-copy_from_slice-end c = sym (length-take-le _ _ (front_fits c.args.text.now _ c.part-front.ensures))

pub copy_from_slice-requires : goal.copy_from_slice-requires
copy_from_slice-requires c = length-take-le _ _ (front_fits c.args.text.now _ c.part-front.ensures)

pub returns : goal.returns
returns c = (rw (c.copy_from_slice.ensures.after, c.part-front.ensures) (carried c.args.text.now _ refl), refl)
