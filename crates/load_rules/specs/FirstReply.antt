-- The reply to a request on files of the first form.
use Rattle.std.specs.Prelude.{◌≡◌, ◌≢◌, ◌⊎◌, ℕ, List, ◌++◌, codes, Contains, Any, ⊤}
use Rattle.outside.specs.declared.files.FileEntry.{FileEntry}
use Rattle.ruby_types.specs.declared.request.Reply.{Reply}
use Rattle.ruby_grammar.specs.Faults.{IsText, Why, NoText}
use Rattle.load_rules.specs.Names.{IsLetters, first_path, class_name}
use Rattle.load_rules.specs.FirstForm.{FirstParts, first_tree}
use Rattle.load_rules.specs.Printed.{kind_text, syntax_error}
use Rattle.load_rules.specs.declared.refusal.FirstRefusal.{FirstRefusal}
use Rattle.load_rules.specs.declared.refusal.FirstRefusal.TheVariants.{NotBuilt, Memory}

-- the bytes are a text whose tree is of the first form
abbrev pub IsFirstText : (class bytes : List ℕ) → FirstParts → Type 0
IsFirstText class bytes parts = IsText bytes (first_tree class parts)

-- the bytes have a tree of the first form, or they have no tree
abbrev pub IsReadableText : (class bytes : List ℕ) → Type 0
IsReadableText class bytes = ((parts : FirstParts) × IsFirstText class bytes parts)
    ⊎ ((at : ℕ) × (why : Why) × NoText bytes at why)

-- the file has the path of a controller, and its text is readable
pub record IsReadable (file : FileEntry) : Type 0 where
  pub name : List ℕ
  pub letters : IsLetters name
  pub path : file.path ≡ first_path name
  pub text : IsReadableText (class_name name) file.bytes

-- the file stands among these, and it is this controller's
pub record IsFileOf (files : List FileEntry) (controller : List ℕ) (file : FileEntry) : Type 0 where
  pub among : Contains files file
  pub path : file.path ≡ first_path controller

-- a file of this path is not readable; want of memory says nothing of the files
abbrev pub IsRefusalOf : List FileEntry → FirstRefusal → Type 0
IsRefusalOf files (NotBuilt path) = Any (λ file. (file.path ≡ path) × ¬ (IsReadable file)) files
IsRefusalOf files Memory = ⊤

-- the body of a 404 where the controller has no file: `no controller HelloController`
abbrev pub no_controller_text : (class : List ℕ) → List ℕ
no_controller_text class = codes "no controller " ++ class

-- the body of a 404 where the method has another name: `no action show in HelloController`
abbrev pub no_action_text : (class action : List ℕ) → List ℕ
no_action_text class action = codes "no action " ++ (action ++ (codes " in " ++ class))

-- the reply of a method: 200 with its text where the action is its name, else 404
abbrev pub IsReplyOf : (class action : List ℕ) → FirstParts → Reply → Type 0
IsReplyOf class action parts reply = ((action ≡ parts.name) × (reply ≡ record { status = 200; body = parts.text }))
    ⊎ ((action ≢ parts.name) × (reply ≡ record { status = 404; body = no_action_text class action }))

-- the reply of a file: 500 with its first fault where it has no tree, else its method's
abbrev pub IsFileReply : (class action : List ℕ) → FileEntry → Reply → Type 0
IsFileReply class action file reply =
    ((at : ℕ) × (why : Why) × NoText file.bytes at why
    × (reply ≡ record { status = 500; body = syntax_error (kind_text why) at file.path }))
    ⊎ ((parts : FirstParts) × IsFirstText class file.bytes parts × IsReplyOf class action parts reply)

-- 404 where the controller has no file, 500 with the first fault where its file has no tree, 404 where its method has
-- another
-- name, and else 200 with the method's text.
pub data FirstReply (files : List FileEntry) (controller action : List ℕ) : Reply → Type 0 where
  no_controller : ((file : FileEntry) → IsFileOf files controller file → ⊥)
      → FirstReply files controller action (record { status = 404; body = no_controller_text (class_name controller) })
  no_tree : (file : FileEntry) (at : ℕ) (why : Why) → IsFileOf files controller file → NoText file.bytes at why
      → FirstReply files controller action (record { status = 500; body = syntax_error (kind_text why) at file.path })
  no_action : (file : FileEntry) (parts : FirstParts) → IsFileOf files controller file →
      IsFirstText (class_name controller) file.bytes parts
      → action ≢ parts.name → FirstReply files controller action
      (record { status = 404; body = no_action_text (class_name controller) action })
  answers : (file : FileEntry) (parts : FirstParts) → IsFileOf files controller file →
      IsFirstText (class_name controller) file.bytes parts
      → action ≡ parts.name → FirstReply files controller action (record { status = 200; body = parts.text })
