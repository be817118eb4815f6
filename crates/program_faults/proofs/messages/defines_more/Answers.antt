use Rattle.std.proofs.Common.{◌≡◌, ◌++◌, codes, Some, IfOk, List, ℕ, append_assoc, subst}
use Rattle.program_files.specs.Faults.{fault}
use Rattle.program_faults.specs.Read.{used}
use Rattle.ruby_types.specs.Paths.{path_text}
use Rattle.ruby_types.specs.declared.request.ErrorClass.TheVariants as class
use Rattle.program_faults.proofs.messages.defines_more.Goals as goal

pub returns : goal.returns
returns c =
    let text : c.push_path.new.written.items
    ≡ c.args.file.now.path.now ++ (codes " defines more than " ++ path_text c.args.file.now.constant.now) =
    rw (
      c.in_ok-push_path.ensures,
      c.in_ok-extend_from_slice.ensures.items,
      c.in_ok-message.ensures.items,
      c.as_bytes.ensures,
    ) (simp append_assoc) in
    subst (λ (message : List ℕ). IfOk c.error_of.result
    (λ error. Some error ≡ fault (used c.args.file.now) class.Name message)) text c.error_of.ensures
