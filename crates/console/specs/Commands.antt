-- The words of a command.
use Rattle.std.specs.Prelude.{◌≡◌, ℕ, ◌^◌, ◌<◌, List, codes}
use Rattle.std.specs.Str.Parse.{IsNumeral, digits_value, without_leading_plus}
use Rattle.console.specs.declared.command.FormatCommand.{FormatCommand}

-- a word that writes a number: decimal digits, with a "+" before them or none, below 2^64
abbrev pub Number : List ℕ → Type 0
Number word = IsNumeral 10 (without_leading_plus word) × (digits_value 10 (without_leading_plus word) < 2 ^ 64)

-- the number that it writes
abbrev pub number_of : List ℕ → ℕ
number_of word = digits_value 10 (without_leading_plus word)

-- the words ask for a format
abbrev pub Asked : List ℕ → List ℕ → List ℕ → Type 0
Asked verb sectors allocation = (verb ≡ codes "format") × Number sectors × Number allocation

-- and this is the command that they make
abbrev pub Taken : List ℕ → List ℕ → List ℕ → List ℕ → FormatCommand → Type 0
Taken image sectors name allocation c =
    (c.image.now ≡ image) × (c.sectors ≡ number_of sectors) × (c.name.now ≡ name) × (c.allocation ≡ number_of allocation)
