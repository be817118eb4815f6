-- What is known of applications of the profile stands in them.
use Rattle.std.proofs.Common.{ℕ, List, [], ◌∷◌, map, refl, sym, subst}
use Rattle.by_need.specs.Rounds.{known}
use Rattle.ruby_types.specs.declared.request.Request.{Request}
use Rattle.program_places.specs.Paths.{Name, Path}
use Rattle.program_places.specs.Places.{Index}
use Rattle.program_places.specs.Tasks.{EachIs}
use Rattle.program_files.specs.Files.{UsedFile}
use Rattle.program_theory.specs.Applications.{index_in, rules_of}
use Rattle.program_facts.specs.Generations.{IsWellFormed, parameter}
use Rattle.program_values.specs.Standing.{AllStand, IsWritten, NamesNothingNew, PairStands}
use Rattle.program_values.proofs.Values.{str_stands, sym_stands}
use Rattle.program_values.proofs.Known.{known_stands}
use Rattle.program_built_ins.proofs.Calls.{names_nothing_new}
use Rattle.program_written.proofs.Standing.{files_are_written}
use Rattle.program_replies.specs.Profiled.{AreFiles, profiled}

-- the built-in methods of the profile name nothing new
pub profile_names_nothing_new : (files : List UsedFile) (controller : List Name → Path) →
    NamesNothingNew (index_in (profiled files controller)) (profiled files controller).rows
profile_names_nothing_new files controller =
    names_nothing_new (index_in (profiled files controller)) (profiled files controller).rows refl

-- what the files define stands
pub profiled_is_written : (files : List UsedFile) (controller : List Name → Path) → AreFiles files →
    IsWritten (index_in (profiled files controller))
profiled_is_written files controller are = files_are_written files controller are.one are.read

-- all that is known stands
pub profiled_known_stands : (files : List UsedFile) (controller : List Name → Path) → AreFiles files →
    AllStand (index_in (profiled files controller)) (known (rules_of (profiled files controller)))
profiled_known_stands files controller are = known_stands (profiled files controller)
    (profile_names_nothing_new files controller) (profiled_is_written files controller are)

module _ (index : Index) where
  pairs_stand : (ps : List (Name × List ℕ)) → EachIs (PairStands index) (map parameter ps)
  pairs_stand [] = tt
  pairs_stand (p ∷ ps) = ((sym_stands index p.0, str_stands index p.1), pairs_stand ps)

  -- the parameters of a request that may begin stand
  pub parameters_stand : (request : Request) → IsWellFormed request → EachIs (PairStands index) request.params
  parameters_stand request w = subst (EachIs (PairStands index)) (sym w.params) (pairs_stand w.pairs)
