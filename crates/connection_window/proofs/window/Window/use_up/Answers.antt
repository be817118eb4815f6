use Rattle.std.proofs.Common.{◌+◌, ◌≤◌, length, drop, ap, ◌∙◌, arith}
use Rattle.connection_window.proofs.Windows.{window_less, window_length}
use Rattle.connection_window.proofs.window.Window.use_up.Goals as goal

pub returns : goal.returns
returns c =
    let i = c.self.inside in
    let size = window_length i.bytes.items i.from i.to (omega arith) in
    let same = ap length c.self.view_is in
    let fits : i.from + c.args.count ≤ i.to = omega arith in
    window_less i.bytes.items i.from i.to c.args.count fits ∙ ap (drop c.args.count) c.self.view_is
