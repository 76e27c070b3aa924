mod Bytes
mod Faults
mod Fields
mod Commands
mod Lines
