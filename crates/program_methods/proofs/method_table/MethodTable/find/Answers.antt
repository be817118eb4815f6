use Rattle.std.proofs.Common.{◌≡◌, ◌<◌, ◌∙◌, length, sym, ap, arith}
use Rattle.program_methods.specs.Methods.{first_named, is_named}
use Rattle.program_methods.proofs.MethodLaws.{first_past, first_found, first_other}
use Rattle.program_methods.proofs.method_table.MethodTable.find.Goals as goal

pub returns-then-place-methods : goal.returns-then-place-methods
returns-then-place-methods c =
    let ms = c.as_slice-methods.result.now in
    let is : ms ≡ c.args.self.now = c.as_slice-methods.ensures.value ∙ c.self.view_is in
    sym (first_past c.as_bytes.result.now ms c.place_of-place.result c.place_of-place.ensures.parted.0
    c.if-place-methods.true)
    ∙ ap (λ n. first_named n ms) c.as_bytes.ensures ∙ ap (first_named c.args.name.now) is

pub returns-then-is_named : goal.returns-then-is_named
returns-then-is_named c =
    let ms = c.as_slice-methods.result.now in
    let m = c.index-methods-place.result in
    let is : ms ≡ c.args.self.now = c.as_slice-methods.ensures.value ∙ c.self.view_is in
    let within : c.place_of-place.result < length ms =
    omega (arith, c.place_of-place.ensures.bound, c.if-place-methods.false) in
    let named : is_named c.as_bytes.result.now m ≡ c.is_named.result =
    ap (λ n. is_named n m) c.as_bytes.ensures ∙ sym c.is_named.ensures in
    sym (first_found c.as_bytes.result.now ms c.place_of-place.result m within c.index-methods-place.is
    c.place_of-place.ensures.parted.0 (named ∙ c.if-is_named.true))
    ∙ ap (λ n. first_named n ms) c.as_bytes.ensures ∙ ap (first_named c.args.name.now) is

pub returns-else-is_named : goal.returns-else-is_named
returns-else-is_named c =
    let ms = c.as_slice-methods.result.now in
    let m = c.index-methods-place.result in
    let is : ms ≡ c.args.self.now = c.as_slice-methods.ensures.value ∙ c.self.view_is in
    let within : c.place_of-place.result < length ms =
    omega (arith, c.place_of-place.ensures.bound, c.if-place-methods.false) in
    let named : is_named c.as_bytes.result.now m ≡ c.is_named.result =
    ap (λ n. is_named n m) c.as_bytes.ensures ∙ sym c.is_named.ensures in
    sym (first_other c.as_bytes.result.now ms c.place_of-place.result m within c.index-methods-place.is
    (rw c.as_slice-methods.ensures.value c.self.invariant)
    c.place_of-place.ensures.parted.0 c.place_of-place.ensures.parted.1 (named ∙ c.if-is_named.false))
    ∙ ap (λ n. first_named n ms) c.as_bytes.ensures ∙ ap (first_named c.args.name.now) is
