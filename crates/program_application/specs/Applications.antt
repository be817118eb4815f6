-- The application of a generation.
use Rattle.program_index.specs.Content.{Content, used_files}
use Rattle.program_index.specs.Controllers.{controller_of}
use Rattle.program_replies.specs.Profiled.{profiled}
use Rattle.program_theory.specs.Applications.{Application}

-- The application of the files that a program uses. A controller's constant is named as the program's configuration
-- says (the Rails guide "Action Controller Overview").
abbrev pub application_of : Content → Application
application_of p = profiled (used_files p) (controller_of p.config)
