use Rattle.std.proofs.Common.{◌≡◌, ◌∙◌, ◌+◌, ◌++◌, ◌∷◌, [], List, ℕ, map, take, sym, ap, subst, arith}
use Rattle.std.proofs.lemmas.List.{take_more, take_all, map-append}
use Rattle.program_places.specs.Places.{Method}
use Rattle.ruby_nodes.proofs.Standing.{Extends_refl}
use Rattle.program_methods.specs.Methods.{Adds}
use Rattle.program_methods.proofs.CodeLaws.{adds_more}
use Rattle.program_code.specs.Members.{reader_of}
use Rattle.program_code.proofs.members.push_readers.Goals as goal

pub names-preserved : goal.names-preserved
names-preserved c = λ known.
    let names = c.args.names.now in
    let k = c.names.name-index in
    let name = c.name-item.result in
    let reader = reader_of c.args.file.now c.args.scopes.now in
    let taken : take (k + 1) names ≡ take k names ++ name ∷ [] =
    take_more names k name c.names-test.true ∙ ap (λ x. take k names ++ x ∷ []) (sym c.name-item.is) in
    subst (λ (ms : List Method). Adds known c.args.methods.now.items c.push_code.new.methods.items ms)
    (sym (ap (map reader) taken ∙ map-append reader (take k names) (name ∷ [])))
    (adds_more (Extends_refl known) (c.names.invariant known)
    (c.in_ok-push_code.ensures known (reader name) (c.in_ok-reader_code.ensures known)))

pub returns : goal.returns
returns c = λ known.
    subst (λ (ns : List (List ℕ)). Adds known c.args.methods.now.items c.names.methods.items
    (map (reader_of c.args.file.now c.args.scopes.now) ns))
    (take_all c.names.name-index c.args.names.now (omega (arith, c.names-test.false))) (c.names.invariant known)
