use Rattle.std.proofs.Common.{◌∙◌, ◌∷◌, ap}
use Rattle.ruby_parse_cursor.specs.Names.{latest_first}
use Rattle.ruby_parse_cursor.proofs.KeyLaws.{insert_known, latest_more}
use Rattle.ruby_parse_cursor.proofs.locals.Locals.insert.Goals as goal

pub invariant_of-self-in-Ok : goal.invariant_of-self-in-Ok
invariant_of-self-in-Ok c =
    insert_known (λ name. name.now) c.self.inside.names.items c.push.new.self.items c.args.name c.in_ok-key.key
    c.self.inside.known c.insert.new.self c.in_ok-push.ensures.items c.in_ok-key.ensures.items
    c.in-Ok.ensures.updates c.self.invariant

pub returns-in-Ok : goal.returns-in-Ok
returns-in-Ok c =
    ap (latest_first (λ name. name.now)) c.in_ok-push.ensures.items
    ∙ latest_more (λ name. name.now) c.self.inside.names.items c.args.name
    ∙ ap (λ l. c.args.name.now ∷ l) c.self.view_is
