-- The files of a made application.
use Rattle.std.specs.Prelude.{ℕ, zero, suc, ◌/◌, List, [], ◌∷◌, ◌++◌, pos, codes}
use Rattle.std.specs.Fmt.{signed_decimal}

-- a number in decimal digits
abbrev pub number : ℕ → List ℕ
number n = signed_decimal (pos n)

-- a line, ended by LF (10)
abbrev pub line : List ℕ → List ℕ
line text = text ++ 10 ∷ []

-- `app/lib/mod_7.rb`
abbrev pub module_path : ℕ → List ℕ
module_path k = codes "app/lib/mod_" ++ (number k ++ codes ".rb")

-- a module and its value
abbrev pub module_with : ℕ → List ℕ → List ℕ
module_with k value =
    line (codes "module Mod" ++ number k) ++ (line (codes "  VALUE = " ++ value) ++ line (codes "end"))

-- the value of a module: 0 of the first, else that of the module with half its number, and its number
abbrev pub module_value : ℕ → List ℕ
module_value zero = codes "0"
module_value (suc k) = codes "Mod" ++ (number (suc k / 2) ++ (codes "::VALUE + " ++ number (suc k)))

-- the file of a module
abbrev pub module_text : ℕ → List ℕ
module_text k = module_with k (module_value k)

-- the file of the first module with another value
abbrev pub edited_text : ℕ → List ℕ
edited_text value = module_with 0 (number value)

-- the action of a module gives its value
abbrev pub action : ℕ → List ℕ
action k =
    line (codes "  def self.m" ++ (number k ++ codes "(params)"))
    ++ (line (codes "    Mod" ++ (number k ++ codes "::VALUE")) ++ line (codes "  end"))

-- the actions of the first n modules
abbrev pub actions : ℕ → List ℕ
actions zero = []
actions (suc n) = actions n ++ action n

-- the controller's file
abbrev pub controller_text : ℕ → List ℕ
controller_text n = line (codes "class DemoController") ++ (actions n ++ line (codes "end"))

-- `/demo/m7`
abbrev pub action_target : ℕ → List ℕ
action_target k = codes "/demo/m" ++ number k
