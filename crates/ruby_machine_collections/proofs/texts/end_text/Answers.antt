use Rattle.std.proofs.Common.{◌+◌, Bool, sym, subst}
use Rattle.std.specs.Prelude.{if◌then◌else◌}
use Rattle.ruby_types.specs.declared.value.Value.TheVariants.{Str}
use Rattle.ruby_runs.specs.BuiltIns.{made}
use Rattle.ruby_runs.specs.Doing.{pure}
use Rattle.ruby_machine_names.specs.Steps.{here_of}
use Rattle.ruby_machine_frames.specs.Rest.{KeptFrom, gives_of, load}
use Rattle.ruby_machine_collections.proofs.texts.end_text.Goals as goal

pub returns-then-inside : goal.returns-then-inside
returns-then-inside c i k =
    let m = c.args.core.now in
    subst (λ (b : Bool). KeptFrom i k ((if b then made (here_of m.here) (Str c.args.bytes.items) else pure (Str
    c.args.bytes.items)) m.turns (gives_of i k m)) (load m + 6) c.made.result c.made.new.core) (sym c.if-inside.true)
    (subst (λ t. KeptFrom i k (made (here_of m.here) (Str t) m.turns (gives_of i k m)) (load m + 6) c.made.result
    c.made.new.core) c.in_ok-from_vec.ensures (c.made.ensures i k))
