use Rattle.std.proofs.Common.{◌∙◌, ap}
use Rattle.outside.specs.Tree.{stamps_of}
use Rattle.outside.proofs.TreeLaws.{stamps_watched}
use Rattle.outside_real.proofs.reading.read_stamps.Goals as goal

pub returns : goal.returns
returns g c =
    stamps_watched c.in_ok-files.files.items c.in_ok-copy_stamps.field-0
    (c.in_ok-copy_stamps.ensures ∙ ap stamps_of c.as_slice.ensures.value) c.in_ok-files.ensures.listed
