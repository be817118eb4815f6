-- The code of methods: more nodes keep it, more methods have more of it, and it is found by names.
use Rattle.std.proofs.Common.{◌≡◌, Bool, true, false, cond, List, [], ◌∷◌, ◌++◌, Option, Some, None, sym, ap, ◌∙◌}
use Rattle.std.proofs.Common.{subst, bytes_eq, append-nil, append_assoc, ℕ}
use Rattle.program_places.specs.Paths.{Name, Path}
use Rattle.program_places.specs.Places.{Body, Statements, Reads, Method}
use Rattle.ruby_nodes.specs.Entries.{Entry, Extends}
use Rattle.ruby_nodes.proofs.Standing.{Stands_later}
use Rattle.program_lookups.specs.Codes.{body_of, method_of}
use Rattle.program_lookups.specs.declared.code.BodyCode.{BodyCode}
use Rattle.program_lookups.specs.declared.code.BodyCode.TheVariants as body_code
use Rattle.program_lookups.specs.declared.code.MethodCode.{MethodCode}
use Rattle.program_methods.specs.Methods.{first_named, first_method, IsBodyOf, IsMethodOf, AreMethodsOf}
use Rattle.program_methods.specs.Methods.{IsFoundOf, AreFoundOf, Adds}

-- ---- more nodes

body_later : {a b : List Entry} → Extends a b → (code : BodyCode) (body : Body) → IsBodyOf a code body →
    IsBodyOf b code body
body_later e (body_code.Statements first) (Statements body) h = Stands_later e h
body_later e (body_code.Statements first) (Reads variable) h = absurd h
body_later e (body_code.Reads name) (Statements body) h = absurd h
body_later e (body_code.Reads name) (Reads variable) h = h

-- a method's code stays its code
pub method_later : {a b : List Entry} → Extends a b → {code : MethodCode} {method : Method} →
    IsMethodOf a code method → IsMethodOf b code method
method_later e {code} {method} h = record {
  name = h.name;
  params = h.params;
  body = body_later e code.body method.body h.body;
  scopes = h.scopes;
  file = h.file;
}

-- the code of methods stays their code
pub methods_later : {a b : List Entry} → Extends a b → (codes : List MethodCode) (methods : List Method) →
    AreMethodsOf a codes methods → AreMethodsOf b codes methods
methods_later e [] [] h = tt
methods_later e [] (m ∷ ms) h = absurd h
methods_later e (c ∷ cs) [] h = absurd h
methods_later e (c ∷ cs) (m ∷ ms) h = (method_later e h.0, methods_later e cs ms h.1)

found_later : {a b : List Entry} → Extends a b → (code : Option MethodCode) (method : Option Method) →
    IsFoundOf a code method → IsFoundOf b code method
found_later e None None h = tt
found_later e None (Some m) h = absurd h
found_later e (Some c) None h = absurd h
found_later e (Some c) (Some m) h = method_later e h

-- what is found stays so
pub are_found_later : {a b : List Entry} → Extends a b → (codes : List MethodCode) (methods : List Method) →
    AreFoundOf a codes methods → AreFoundOf b codes methods
are_found_later e codes methods h name = found_later e (first_named name codes) (first_method name methods) (h name)

-- ---- more methods

methods_append : (known : List Entry) (cs ds : List MethodCode) (ms ns : List Method) → AreMethodsOf known cs ms →
    AreMethodsOf known ds ns → AreMethodsOf known (cs ++ ds) (ms ++ ns)
methods_append known [] ds [] ns h k = k
methods_append known [] ds (m ∷ ms) ns h k = absurd h
methods_append known (c ∷ cs) ds [] ns h k = absurd h
methods_append known (c ∷ cs) ds (m ∷ ms) ns h k = (h.0, methods_append known cs ds ms ns h.1 k)

-- nothing is added
pub adds_none : (known : List Entry) (codes : List MethodCode) → Adds known codes codes []
adds_none known codes = record { added = []; is = sym (append-nil codes); code = tt }

-- one method is added
pub adds_one : {known : List Entry} {code : MethodCode} {method : Method} (old new : List MethodCode) →
    new ≡ old ++ code ∷ [] → IsMethodOf known code method → Adds known old new (method ∷ [])
adds_one {code} old new is h = record { added = code ∷ []; is = is; code = (h, tt) }

-- more methods are added, with more nodes
pub adds_more : {a b : List Entry} {x y z : List MethodCode} {ms ns : List Method} → Extends a b → Adds a x y ms →
    Adds b y z ns → Adds b x z (ms ++ ns)
adds_more {b} {x} {ms} {ns} e h k = record {
  added = h.added ++ k.added;
  is = k.is ∙ ap (λ l. l ++ k.added) h.is ∙ append_assoc x h.added k.added;
  code = methods_append b h.added k.added ms ns (methods_later e h.added ms h.code) k.code;
}

-- ---- methods by their names

-- the code of methods is found as they are
pub found_of : (known : List Entry) (codes : List MethodCode) (methods : List Method) →
    AreMethodsOf known codes methods → AreFoundOf known codes methods
found_of known [] [] h name = tt
found_of known [] (m ∷ ms) h name = absurd h
found_of known (c ∷ cs) [] h name = absurd h
found_of known (c ∷ cs) (m ∷ ms) h name =
    subst (λ n. IsFoundOf known (cond (bytes_eq n name) (Some c) (first_named name cs))
    (cond (bytes_eq m.name name) (Some m) (first_method name ms))) (sym h.0.name)
    (at (bytes_eq m.name name) (found_of known cs ms h.1 name)) where
      at : (b : Bool) → IsFoundOf known (first_named name cs) (first_method name ms) →
          IsFoundOf known (cond b (Some c) (first_named name cs)) (cond b (Some m) (first_method name ms))
      at true ih = h.0
      at false ih = ih

-- a table in which each name is found as among the code of methods
pub table_found : (known : List Entry) (codes table : List MethodCode) (methods : List Method) →
    Adds known [] codes methods → ((name : Name) → first_named name table ≡ first_named name codes) →
    AreFoundOf known table methods
table_found known codes table methods h same name =
    subst (λ o. IsFoundOf known o (first_method name methods)) (sym (same name))
    (found_of known codes methods (subst (λ cs. AreMethodsOf known cs methods) (sym h.is) h.code) name)

-- ---- what code stands for

body_is : (known : List Entry) (code : BodyCode) (body : Body) → IsBodyOf known code body → body_of known code ≡ body
body_is known (body_code.Statements first) (Statements body) h = ap (λ (e : Entry). Statements e.body) h.is
body_is known (body_code.Statements first) (Reads variable) h = absurd h
body_is known (body_code.Reads name) (Statements body) h = absurd h
body_is known (body_code.Reads name) (Reads variable) h = ap Reads h

abbrev made : Name → List Name → Body → List Path → List ℕ → Method
made name params body scopes file =
    record { name = name; params = params; body = body; scopes = scopes; file = file }

-- code stands for its method
pub method_is : (known : List Entry) (code : MethodCode) (method : Method) → IsMethodOf known code method →
    method_of known code ≡ method
method_is known code method h =
    ap (λ x. made x code.params (body_of known code.body) code.scopes code.file) h.name
    ∙ ap (λ x. made method.name x (body_of known code.body) code.scopes code.file) h.params
    ∙ ap (λ x. made method.name method.params x code.scopes code.file)
    (body_is known code.body method.body h.body)
    ∙ ap (λ x. made method.name method.params method.body x code.file) h.scopes
    ∙ ap (λ x. made method.name method.params method.body method.scopes x) h.file
