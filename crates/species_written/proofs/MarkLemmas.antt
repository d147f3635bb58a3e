-- The parallel marks of a statement have depths, as the pragmas among its tokens do.
use Rattle.std.proofs.Common.{◌≡◌, ◌∙◌, refl, ℕ, Bool, true, false, List, [], ◌∷◌, ◌++◌, map, Option}
use Rattle.std.proofs.lemmas.Bool.{and_parts, and_from}
use Rattle.std.specs.Prelude.{nat_le}
use Rattle.std.specs.List.{list_all}
use Rattle.species_ast.specs.Token.{Token}
use Rattle.species_ast.specs.Marks.{all_true}
use Rattle.species_ast.specs.declared.tree.Schedule.{Schedule}
use Rattle.species_ast.specs.declared.raw.RawStmt.{RawStmt}
use Rattle.species_ast.specs.declared.raw.RawLoop.{RawLoop}
use Rattle.species_ast.specs.declared.raw.RawWhat.{RawWhat}
use Rattle.species_ast.specs.declared.raw.RawWhat.TheOpen.{RawLoop-F}
use Rattle.species_ast.specs.declared.raw.RawUnit.{RawUnit}
use Rattle.species_ast.specs.Grammar.Words.{punctuator, keyword, name}
use Rattle.species_ast.specs.Grammar.Declarations.{LocalDeclaration}
use Rattle.species_ast.specs.Grammar.Statements.{ParallelLine, Statement, BlockItems, target_place}
use Rattle.species_ast.specs.Grammar.Units.{TranslationUnit}
use Rattle.species_ast.specs.Scope.Written.{has_depth, has_depths}
use Rattle.species_written.proofs.TokenLemmas.{is_deep_token}
use Rattle.species_written.proofs.CountLemmas.{has_depths-Declare, has_depths-Block, has_depths-Empty, has_depths-If, has_depths-IfElse, has_depths-Change, has_depths-Atomic, has_depths-Loop}

abbrev pub AllDeep : List Token → Type 0
AllDeep ts = list_all is_deep_token ts ≡ true

-- the second of two lists
behind_deep : (xs ys : List Token) → AllDeep (xs ++ ys) → AllDeep ys
behind_deep [] ys h = h
behind_deep (x ∷ xs) ys h = behind_deep xs ys (and_parts (is_deep_token x) (list_all is_deep_token (xs ++ ys)) h).1

before_deep : (xs ys : List Token) → AllDeep (xs ++ ys) → AllDeep xs
before_deep [] ys h = refl
before_deep (x ∷ xs) ys h =
    let k = and_parts (is_deep_token x) (list_all is_deep_token (xs ++ ys)) h in
    and_from (is_deep_token x) (list_all is_deep_token xs) k.0 (before_deep xs ys k.1)

all_mapped : {X : Type 0} (f : X → Bool) (xs : List X) → list_all f xs ≡ true → all_true (map f xs) ≡ true
all_mapped f [] h = refl
all_mapped f (x ∷ xs) h = let k = and_parts (f x) (list_all f xs) h in and_from (f x) (all_true (map f xs)) k.0 (all_mapped f xs k.1)

line_deep : (m : Option (ℕ × Schedule)) (ms : List Token) → ParallelLine m ms → AllDeep ms → has_depth m ≡ true
line_deep m ms ParallelLine.absent g = refl
line_deep m ms (ParallelLine.present n d s) g = (and_parts (nat_le 1 d) true g).0

declaration_deep : (x : RawStmt) (ts : List Token) → LocalDeclaration x ts → has_depths x ≡ true
declaration_deep x ts (LocalDeclaration.declaration p q k l rest ks xs us t d e) = has_depths-Declare p k (l ∷ rest)

mutual
  stmt_deep : (b : Bool) (x : RawStmt) (ts : List Token) → Statement b x ts → AllDeep ts → has_depths x ≡ true
  stmt_deep b x ts (Statement.empty p) g = has_depths-Empty p
  stmt_deep b x ts (Statement.block p body us d) g = has_depths-Block p body ∙ all_mapped has_depths body (items_deep body us d g)
  stmt_deep b x ts (Statement.assignment p q y cs d) g = has_depths-Change p y
  stmt_deep b x ts (Statement.atomic_assignment p q n t y us ys dt dy) g = has_depths-Atomic (target_place t) t y
  stmt_deep b x ts (Statement.if_only b' p q r y body ys ss dy ds) g =
      has_depths-If p y body ∙ and_from (has_depths body) true (stmt_deep b' body ss ds (behind_deep (ys ++ punctuator r ")" ∷ []) ss g)) refl
  stmt_deep b x ts (Statement.if_else b' p q r o y body other ys ss us dy ds dt) g =
      let test = ys ++ punctuator r ")" ∷ [] in
      let first = behind_deep test ss (before_deep (test ++ ss) (keyword o "else" ∷ us) g) in
      let second = behind_deep (test ++ ss) (keyword o "else" ∷ us) g in
      has_depths-IfElse p y body other ∙ and_from (has_depths body) (has_depths other) (stmt_deep false body ss ds first) (stmt_deep b' other us dt second)
  stmt_deep b x ts (Statement.for b' p l m h body ls ms hs ss dl dm dh ds) g =
      let raw : RawLoop-F RawWhat RawLoop RawStmt = record { line = l; parallel = m; typed = h.typed; iter = h.iter; start = h.start; tested = h.tested; test = h.test; limit = h.limit; step = h.step; body = body } in
      let marked = behind_deep ls (ms ++ (keyword p "for" ∷ (hs ++ ss))) g in
      let headed = behind_deep ms (keyword p "for" ∷ (hs ++ ss)) marked in
      has_depths-Loop p raw
      ∙ and_from (has_depth m) (has_depths body) (line_deep m ms dm (before_deep ms (keyword p "for" ∷ (hs ++ ss)) marked)) (stmt_deep b' body ss ds (behind_deep hs ss headed))

  items_deep : (xs : List RawStmt) (ts : List Token) → BlockItems xs ts → AllDeep ts → list_all has_depths xs ≡ true
  items_deep xs ts (BlockItems.end p) g = refl
  items_deep xs ts (BlockItems.item b x rest ss us d e) g =
      and_from (has_depths x) (list_all has_depths rest) (stmt_deep b x ss d (before_deep ss us g)) (items_deep rest us e (behind_deep ss us g))
  items_deep xs ts (BlockItems.declaration x rest ss us d e) g =
      and_from (has_depths x) (list_all has_depths rest) (declaration_deep x ss d) (items_deep rest us e (behind_deep ss us g))

pub unit_deep : (u : RawUnit) (ts : List Token) → TranslationUnit u ts → AllDeep ts → list_all has_depths u.body ≡ true
unit_deep u ts (TranslationUnit.directive n w us d) g = unit_deep w us d g
unit_deep u ts (TranslationUnit.global b x w bs gs us o d e) g = unit_deep w us e (behind_deep gs us (behind_deep bs (gs ++ us) g))
unit_deep u ts (TranslationUnit.function b c p q r o f body bs cs us ob oc d) g =
    let behind = cs ++ (punctuator r ")" ∷ punctuator o "{" ∷ us) in
    let head = behind_deep bs (keyword p "void" ∷ name f ∷ punctuator q "(" ∷ behind) g in
    items_deep body us d (behind_deep cs (punctuator r ")" ∷ punctuator o "{" ∷ us) head)
