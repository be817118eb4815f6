-- What the answers of look-ups stand for.
use Rattle.std.specs.Prelude.{◌≡◌, false, List, [], map, Option, None, bytes_eq}
use Rattle.std.specs.List.{find}
use Rattle.std.specs.Option.{option_map}
use Rattle.program_places.specs.Paths.{Name}
use Rattle.program_places.specs.Places.{Place, Missing, Implicit, Owned, Faulty, Assigned, Opened, Opening, Mention}
use Rattle.program_places.specs.Places.{Method, Body, Statements, Reads, Loading, Absent, Fails, AsksFor}
use Rattle.ruby_nodes.specs.Entries.{Entry, entry_at}
use Rattle.program_lookups.specs.declared.code.BodyCode.{BodyCode}
use Rattle.program_lookups.specs.declared.code.BodyCode.TheVariants as body_code
use Rattle.program_lookups.specs.declared.code.MethodCode.{MethodCode}
use Rattle.program_lookups.specs.declared.code.MentionCode.{MentionCode}
use Rattle.program_lookups.specs.declared.code.OpeningCode.{OpeningCode}
use Rattle.program_lookups.specs.declared.lookups.Standing.{Standing}
use Rattle.program_lookups.specs.declared.lookups.Standing.TheVariants as standing
use Rattle.program_lookups.specs.declared.lookups.LoadingCode.{LoadingCode}
use Rattle.program_lookups.specs.declared.lookups.LoadingCode.TheVariants as loading

-- the body that a method has, by the table of nodes
abbrev pub body_of : List Entry → BodyCode → Body
body_of known (body_code.Statements first) = Statements (entry_at known first).body
body_of known (body_code.Reads name) = Reads name

-- the method that code stands for
abbrev pub method_of : List Entry → MethodCode → Method
method_of known m =
    record { name = m.name; params = m.params; body = body_of known m.body; scopes = m.scopes; file = m.file }

-- the mention that code stands for
abbrev pub mention_of : MentionCode → Mention
mention_of m = record { constant = m.constant; scopes = m.scopes }

-- the module or class that a file opens at a place; elsewhere one without anything
abbrev pub opening_of : Place → Opening
opening_of (Owned file (Opened opening)) = opening
opening_of _ = record { is_class = false; parent = None; includes = []; singles = []; instances = [] }

-- the singleton method of this name that a place has of its own
abbrev pub own_singleton : Name → Place → Option Method
own_singleton name place = find (λ m. bytes_eq m.name name) (opening_of place).singles

-- the instance method or reader of this name that a place has of its own
abbrev pub own_instance : Name → Place → Option Method
own_instance name place = find (λ m. bytes_eq m.name name) (opening_of place).instances

-- a module or class is told, without its methods
abbrev pub Opens : OpeningCode → Opening → Type 0
Opens code opening = (opening.is_class ≡ code.is_class) × (opening.parent ≡ option_map mention_of code.parent)
    × (opening.includes ≡ map mention_of code.includes)

-- this is what stands at a place
abbrev pub StandsAt : List Entry → Standing → Place → Type 0
StandsAt known standing.Missing place = place ≡ Missing
StandsAt known standing.Implicit place = place ≡ Implicit
StandsAt known (standing.Faulty file error) place = place ≡ Owned file.now (Faulty error.now)
StandsAt known (standing.Assigned file first scopes) place =
    place ≡ Owned file.now (Assigned (entry_at known first).expr scopes.now)
StandsAt known (standing.Opened file code) place =
    (place ≡ Owned file.now (Opened (opening_of place))) × Opens code.now (opening_of place)

-- this is what loading a file does
abbrev pub Loads : LoadingCode → Loading → Type 0
Loads loading.Absent does = does ≡ Absent
Loads (loading.Fails error) does = does ≡ Fails error.now
Loads (loading.AsksFor tasks) does = does ≡ AsksFor tasks.now
