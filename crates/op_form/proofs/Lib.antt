pub mod FormedLaws
