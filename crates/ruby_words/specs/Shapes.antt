-- What the words of Ruby begin with, and how long they are: `a` begins words of 3, 5, 11 and 13 bytes.
use Rattle.std.specs.Prelude.{ℕ, Bool, false, ◌==◌, ◌||◌, if◌then◌else◌}

-- a word begins with this byte and has so many
abbrev pub is_shape : ℕ → ℕ → Bool
is_shape first size =
    if first == 97 then (size == 3) || (size == 5) || (size == 11) || (size == 13)
    else (if first == 98 then size == 5
    else (if first == 99 then (size == 4) || (size == 5)
    else (if first == 100 then (size == 2) || (size == 3)
    else (if first == 101 then (size == 3) || (size == 4) || (size == 5) || (size == 6)
    else (if first == 102 then (size == 3) || (size == 5)
    else (if first == 105 then (size == 2) || (size == 7)
    else (if first == 109 then size == 6
    else (if first == 110 then (size == 3) || (size == 4)
    else (if first == 111 then size == 2
    else (if first == 112 then (size == 6) || (size == 7) || (size == 9)
    else (if first == 114 then (size == 4) || (size == 5) || (size == 6) || (size == 7) || (size == 16)
    else (if first == 115 then (size == 4) || (size == 5)
    else (if first == 116 then size == 4
    else (if first == 117 then (size == 5) || (size == 6)
    else (if first == 119 then (size == 4) || (size == 5)
    else (if first == 121 then size == 5
    else false))))))))))))))))
