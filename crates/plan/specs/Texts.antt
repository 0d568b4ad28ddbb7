-- What a refusal and a contradiction are as text.
use Rattle.std.specs.Prelude.{ℕ, List, ◌++◌, codes, decimal}

-- a refusal: its number and its place
abbrev pub refusal_text : ℕ → ℕ → List ℕ
refusal_text number place = codes "refused " ++ (decimal number ++ (codes " " ++ decimal place))

-- a contradiction: the hour, the component and the label of the first void cell
abbrev pub clash_text : ℕ → ℕ → ℕ → List ℕ
clash_text hour component label =
    codes "contradiction " ++ (decimal hour ++ (codes " " ++ (decimal component ++ (codes " " ++ decimal label))))
