-- The classes of Ecore, by what an object's `eClass` says, and what the references to its types begin with.
use Rattle.std.specs.Prelude.{List, ℕ, codes}

-- the `eClass` of a package
abbrev pub ecore_package : List ℕ
ecore_package = codes "http://www.eclipse.org/emf/2002/Ecore#//EPackage"

-- that of a class
abbrev pub ecore_class : List ℕ
ecore_class = codes "http://www.eclipse.org/emf/2002/Ecore#//EClass"

-- that of an enum
abbrev pub ecore_enum : List ℕ
ecore_enum = codes "http://www.eclipse.org/emf/2002/Ecore#//EEnum"

-- that of a data type
abbrev pub ecore_data_type : List ℕ
ecore_data_type = codes "http://www.eclipse.org/emf/2002/Ecore#//EDataType"

-- that of an attribute
abbrev pub ecore_attribute : List ℕ
ecore_attribute = codes "http://www.eclipse.org/emf/2002/Ecore#//EAttribute"

-- that of a reference
abbrev pub ecore_reference : List ℕ
ecore_reference = codes "http://www.eclipse.org/emf/2002/Ecore#//EReference"

-- what the references to types of Ecore begin with
abbrev pub ecore_types : List ℕ
ecore_types = codes "http://www.eclipse.org/emf/2002/Ecore#//"
