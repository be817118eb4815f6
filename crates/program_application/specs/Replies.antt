-- What a request is answered with on the files of a snapshot.
use Rattle.std.specs.Prelude.{◌≡◌, List}
use Rattle.outside.specs.declared.files.FileEntry.{FileEntry}
use Rattle.ruby_types.specs.declared.request.Reply.{Reply}
use Rattle.ruby_types.specs.declared.request.Request.{Request}
use Rattle.program_index.specs.Content.{Content}
use Rattle.program_index.specs.Program.{IsProgram}
use Rattle.program_theory.specs.Replies.{reply_of}
use Rattle.program_application.specs.Applications.{application_of}

-- The files have a program, and its application answers the request so.
pub record IsReplyTo (files : List FileEntry) (request : Request) (reply : Reply) : Type 0 where
  pub program : Content
  pub built : IsProgram files program
  pub answers : reply ≡ reply_of (application_of program) request
