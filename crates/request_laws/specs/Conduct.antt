-- Which entries a request makes, in which order.
use Rattle.std.specs.Prelude.{◌≡◌, ◌⊎◌, List, [], ◌∷◌, ◌++◌, Contains}
use Rattle.system_events.specs.declared.event.Cause.{Cause}
use Rattle.system_events.specs.declared.event.Want.{Want}
use Rattle.system_events.specs.declared.event.Want.TheVariants.{Load, Unload}
use Rattle.system_events.specs.declared.event.Kept.{Kept}
use Rattle.system_events.specs.declared.event.Kept.TheVariants.{Share, Unshare, Seek, Take, Release, Resume, Define}
use Rattle.system_events.specs.declared.event.Kept.TheVariants.{Reload, Begin, End, Refuse}

module _ {M T V P Q R F : Type 0} where
  -- a section opens by a Take, where it need not wait, else by a Seek and a Take
  pub data Opens (want : Want M T V P Q R F) : List (Kept M T V P Q R F) → Type 0 where
    at_once : Opens want (Take want ∷ [])
    sought : Opens want (Seek want ∷ Take want ∷ [])

  -- a section closes by a Release, and by a Resume where the release waits
  pub data Closes : List (Kept M T V P Q R F) → Type 0 where
    free : Closes (Release ∷ [])
    resumed : Closes (Release ∷ Resume ∷ [])

  -- one Reload, or none
  pub data MayReload : List (Kept M T V P Q R F) → Type 0 where
    unchanged : MayReload []
    reloads : (program : P) → MayReload (Reload program ∷ [])

  -- Defines alone
  pub data AreDefines : List (Kept M T V P Q R F) → Type 0 where
    no_defines : AreDefines []
    defines : (task : T) (more : List (Kept M T V P Q R F)) → AreDefines more → AreDefines (Define task ∷ more)

  -- an unload section: [Seek] Take [Reload] Release [Resume]
  pub record IsUnload (entries : List (Kept M T V P Q R F)) : Type 0 where
    pub opening : List (Kept M T V P Q R F)
    pub reload : List (Kept M T V P Q R F)
    pub closing : List (Kept M T V P Q R F)
    pub is : entries ≡ opening ++ (reload ++ closing)
    pub opens : Opens Unload opening
    pub may_reload : MayReload reload
    pub closes : Closes closing

  -- a load section of a task: [Seek] Take, Defines, Release [Resume]
  pub record IsLoad (task : T) (entries : List (Kept M T V P Q R F)) : Type 0 where
    pub opening : List (Kept M T V P Q R F)
    pub defined : List (Kept M T V P Q R F)
    pub closing : List (Kept M T V P Q R F)
    pub is : entries ≡ opening ++ (defined ++ closing)
    pub opens : Opens (Load task) opening
    pub are : AreDefines defined
    pub closes : Closes closing

  -- load sections, each of a task that the request asks for
  pub data AreLoads (asked : List T) : List (Kept M T V P Q R F) → Type 0 where
    no_loads : AreLoads asked []
    loads : (task : T) (section more : List (Kept M T V P Q R F)) → Contains asked task → IsLoad task section →
        AreLoads asked more → AreLoads asked (section ++ more)

  -- What a request makes between its check and its Unshare: a Begin, load sections and an End; or a Refuse, which has
  -- no Begin before it.
  pub data IsBody (asked : List T) (q : Q) : List (Kept M T V P Q R F) → Type 0 where
    served : (sections : List (Kept M T V P Q R F)) (reply : R) → AreLoads asked sections →
        IsBody asked q (Begin q ∷ (sections ++ End reply ∷ []))
    refused : (cause : Cause M T V P Q R F) → IsBody asked q (Refuse cause ∷ [])

  -- The entries of a request: Share; an unload section where the check differed; the body; Unshare.
  pub record IsConduct (asked : List T) (q : Q) (entries : List (Kept M T V P Q R F)) : Type 0 where
    pub unload : List (Kept M T V P Q R F)
    pub body : List (Kept M T V P Q R F)
    pub is : entries ≡ Share ∷ (unload ++ (body ++ Unshare ∷ []))
    pub unloads : (unload ≡ []) ⊎ IsUnload unload
    pub is_body : IsBody asked q body
