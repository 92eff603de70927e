-- The kinds of record and the classes of field, as the code's enums name them: the number of a kind, and the class of the table that a class stands for.
-- Assumes nothing.
use Rattle.std.specs.Prelude.{ℕ}
use Rattle.layout.specs.declared.Kind.{Kind}
use Rattle.layout.specs.declared.Kind.TheVariants as k
use Rattle.layout.specs.declared.Class as declared
use Rattle.layout.specs.declared.Class.TheVariants as c
use Rattle.layout.specs.Layout.{Class, name, mask, new_label, type, flag, any_label, host_label, function_label, plain_label, data_label, scope, new_variable, variable, declared_variable, global_variable, variable_name, name_class, key}

-- the byte with which a record of the kind begins
abbrev pub number_of : Kind → ℕ
number_of k.Name = 1
number_of k.Label = 2
number_of k.Forbid = 3
number_of k.Function = 4
number_of k.Variable = 5
number_of k.Grant = 6
number_of k.Property = 7
number_of k.Held = 8
number_of k.Profile = 9
number_of k.Copy = 16
number_of k.Load = 17
number_of k.Store = 18
number_of k.Make = 19
number_of k.MakeFunction = 20
number_of k.Call = 21
number_of k.New = 22
number_of k.Return = 23
number_of k.Throw = 24
number_of k.Catch = 25
number_of k.Prim = 26

-- the class of the table of kinds
abbrev pub class_meant : declared.Class → Class
class_meant c.Name = name
class_meant c.Mask = mask
class_meant c.NewLabel = new_label
class_meant c.Type = type
class_meant c.Flag = flag
class_meant c.AnyLabel = any_label
class_meant c.HostLabel = host_label
class_meant c.FunctionLabel = function_label
class_meant c.PlainLabel = plain_label
class_meant c.DataLabel = data_label
class_meant c.Scope = scope
class_meant c.NewVariable = new_variable
class_meant c.Variable = variable
class_meant c.DeclaredVariable = declared_variable
class_meant c.GlobalVariable = global_variable
class_meant c.VariableName = variable_name
class_meant c.NameClass = name_class
class_meant c.Key = key
