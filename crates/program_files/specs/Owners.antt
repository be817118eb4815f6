-- Each used file spells a constant with a name, and no two spell one or have one path.
use Rattle.std.specs.Prelude.{◌≡◌, ◌≢◌, List, []}
use Rattle.program_files.specs.Files.{UsedFile}
use Rattle.program_files.specs.Members.{Among}

pub record OneFile (files : List UsedFile) : Type 0 where
  pub named : (f : UsedFile) → Among f files → f.constant ≢ []
  pub constants : (f g : UsedFile) → Among f files → Among g files → f.constant ≡ g.constant → f ≡ g
  pub paths : (f g : UsedFile) → Among f files → Among g files → f.path ≡ g.path → f ≡ g
