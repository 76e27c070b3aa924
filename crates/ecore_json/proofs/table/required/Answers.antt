use Rattle.std.proofs.Common.{ap, sym}
use Rattle.ecore_json.specs.Table.{required}
use Rattle.ecore_json.proofs.table.required.Goals as goal

pub returns-in-Package : goal.returns-in-Package
returns-in-Package c = sym (ap required c.in-Package.is)

pub returns-in-Class : goal.returns-in-Class
returns-in-Class c = sym (ap required c.in-Class.is)

pub returns-in-Enum : goal.returns-in-Enum
returns-in-Enum c = sym (ap required c.in-Enum.is)

pub returns-in-DataType : goal.returns-in-DataType
returns-in-DataType c = sym (ap required c.in-DataType.is)

pub returns-in-Literal : goal.returns-in-Literal
returns-in-Literal c = sym (ap required c.in-Literal.is)

pub returns-in-Attribute : goal.returns-in-Attribute
returns-in-Attribute c = sym (ap required c.in-Attribute.is)

pub returns-in-Reference : goal.returns-in-Reference
returns-in-Reference c = sym (ap required c.in-Reference.is)

pub returns-in-TypeLink : goal.returns-in-TypeLink
returns-in-TypeLink c = sym (ap required c.in-TypeLink.is)

pub returns-in-OppositeLink : goal.returns-in-OppositeLink
returns-in-OppositeLink c = sym (ap required c.in-OppositeLink.is)
